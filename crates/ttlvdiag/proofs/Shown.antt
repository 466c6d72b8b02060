-- Text that is added part by part.
use Rattle.std.proofs.Common.{◌≡◌, ℕ, ◌+◌, ◌-◌, ◌<◌, ◌≤◌, List, [], ◌∷◌, ◌++◌, length, get_or, take, drop, codes, sym, ap, ◌∙◌, arith}
use Rattle.std.specs.List.{flat_map}
use Rattle.std.proofs.lemmas.List.{take_more, take_at, take-append-drop, append_assoc, append-nil, length-take-le, length-drop}
use Rattle.std.proofs.lemmas.Bool.{lt-ltb, le-ltb, cond-true, cond-false}
use Rattle.std.proofs.lemmas.Fmt.{hex_byte}
use Rattle.streams.specs.Sources.{Handed}
use Rattle.streams.proofs.Growing.{spelt_append}
use Rattle.hexadecimal.specs.Digits.{digits, hexed, hex_spelling}
use Rattle.ttlvdiag.specs.Lines.{lines, first_line, after_line, ended}
use Rattle.ttlvdiag.specs.Reports.{message_text, line_text, report_text}
use Rattle.ttlvdiag.proofs.Cutting.{lines_split}

-- One byte more, in hexadecimal.
pub hexed_more : (bytes : List ℕ) (i : ℕ) → i < length bytes → hexed (take (i + 1) bytes) ≡ hexed (take i bytes) ++ digits (get_or bytes i 0)
hexed_more bytes i h = ap hexed (take_more bytes i 0 h) ∙ spelt_append hex_spelling (take i bytes) (get_or bytes i 0 ∷ [])

-- One byte more, after text that was there.
pub hexed_step : (start now ds bytes : List ℕ) (i : ℕ) → i < length bytes → now ≡ start ++ hexed (take i bytes) → ds ≡ digits (get_or bytes i 0) → now ++ ds ≡ start ++ hexed (take (i + 1) bytes)
hexed_step start now ds bytes i h e d =
    let t : take (i + 1) bytes ≡ take i bytes ++ get_or bytes i 0 ∷ [] = take_more bytes i 0 h in
    ap (λ l. l ++ ds) e ∙ append_assoc start (hexed (take i bytes)) ds ∙ ap (λ l. start ++ (hexed (take i bytes) ++ l)) d
    ∙ ap (λ l. start ++ l) (sym (spelt_append hex_spelling (take i bytes) (get_or bytes i 0 ∷ [])) ∙ ap hexed (sym t))

-- What a byte in hexadecimal needs.
pub ruleset prints = (hexed_more, hex_byte, append_assoc)

-- A part that was read, and what the source has left, are what it had.
pub read_part : {old new buf buf' : List ℕ} {m : ℕ} → Handed old new buf buf' m → hexed (take m buf') ++ hexed new ≡ hexed old
read_part {old} {new} {buf} {buf'} {m} h =
    let t : take m buf' ≡ take m old = ap (take m) h.filled ∙ take_at (take m old) (drop m buf) m (length-take-le m old h.had) in
    ap (λ l. hexed l ++ hexed new) t ∙ ap (λ l. hexed (take m old) ++ hexed l) h.left
    ∙ sym (spelt_append hex_spelling (take m old) (drop m old)) ∙ ap hexed (take-append-drop m old)

-- What reading a message part by part needs.
pub ruleset reads = (read_part, append_assoc)

-- A part of a message, in hexadecimal.
pub part_more : (start now now' all ahead ahead' buf buf' : List ℕ) (m : ℕ) → now ++ hexed ahead ≡ start ++ hexed all → Handed ahead ahead' buf buf' m
    → now' ≡ now ++ hexed (take (m - 0) buf') → now' ++ hexed ahead' ≡ start ++ hexed all
part_more start now now' all ahead ahead' buf buf' m e h p =
    let t : take (m - 0) buf' ≡ take m ahead
    = ap (λ n. take n buf') (let z : m - 0 ≡ m = omega arith in z) ∙ ap (take m) h.filled ∙ take_at (take m ahead) (drop m buf) m (length-take-le m ahead h.had) in
    ap (λ l. now' ++ hexed l) h.left ∙ ap (λ l. l ++ hexed (drop m ahead)) (p ∙ ap (λ l. now ++ hexed l) t)
    ∙ append_assoc now (hexed (take m ahead)) (hexed (drop m ahead))
    ∙ ap (λ l. now ++ l) (sym (spelt_append hex_spelling (take m ahead) (drop m ahead)) ∙ ap hexed (take-append-drop m ahead)) ∙ e

-- Nothing came: the message is shown whole.
pub part_last : (start now all ahead ahead' buf buf' : List ℕ) (m : ℕ) → now ++ hexed ahead ≡ start ++ hexed all → Handed ahead ahead' buf buf' m → m ≡ 0 → 0 < length buf
    → now ≡ start ++ hexed all
part_last start now [] [] ahead' buf buf' m e h z l = sym (append-nil now) ∙ e
part_last start now (b ∷ all) [] ahead' buf buf' m e h z l = sym (append-nil now) ∙ e
part_last start now all (a ∷ ahead) ahead' buf buf' m e h z l = absurd (omega (arith, h.some l (omega arith)))

pub part_falls : (ahead ahead' buf buf' : List ℕ) (m : ℕ) → Handed ahead ahead' buf buf' m → 0 < m → length ahead' < length ahead
part_falls ahead ahead' buf buf' m h l = omega (arith, ap length h.left ∙ length-drop m ahead, h.had)

-- One line more.
pub line_more : (now now' all text line rest : List ℕ) → 0 < length text → now ++ flat_map line_text (lines text) ≡ all → line ≡ first_line text → rest ≡ after_line text
    → now' ≡ (now ++ message_text line) ++ 10 ∷ [] → now' ++ flat_map line_text (lines rest) ≡ all
line_more now now' all text line rest h e l r n =
    let s : lines text ≡ line ∷ lines rest = lines_split text h ∙ ap (λ q. q ∷ lines (after_line text)) (sym l) ∙ ap (λ q. line ∷ lines q) (sym r) in
    ap (λ q. q ++ flat_map line_text (lines rest)) (n ∙ append_assoc now (message_text line) (10 ∷ []))
    ∙ append_assoc now (line_text line) (flat_map line_text (lines rest)) ∙ ap (λ q. now ++ flat_map line_text q) (sym s) ∙ e

-- All lines are shown.
pub lines_shown : (now all text : List ℕ) → now ++ flat_map line_text (lines text) ≡ all → length text ≡ 0 → now ≡ all
lines_shown now all [] e z = sym (append-nil now) ∙ e
lines_shown now all (c ∷ text) e z = absurd (omega arith)

-- The text for an input within the limit, and for one beyond it.
pub report_within : (input out : List ℕ) → length input ≤ 65536 → out ≡ flat_map line_text (lines input) → out ≡ report_text input
report_within input out h e = e ∙ sym (cond-false _ _ _ (le-ltb 65536 (length input) h))

pub report_beyond : (input out : List ℕ) → 65536 < length input → out ≡ ended (codes "too long") → out ≡ report_text input
report_beyond input out h e = e ∙ sym (cond-true _ _ _ (lt-ltb 65536 (length input) h))
