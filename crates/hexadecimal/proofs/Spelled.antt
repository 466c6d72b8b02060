-- What digit pairs spell.
use Rattle.std.proofs.Common.{◌≡◌, ℕ, suc, ◌+◌, ◌*◌, ◌/◌, ◌%◌, ◌<◌, ◌≤◌, Bool, true, false, ◌⊎◌, List, [], ◌∷◌, ◌++◌, length, get_or, take, drop, Some, None, Option, sym, refl, ap, ◌∙◌, inl, inr, arith}
use Rattle.std.proofs.lemmas.List.{drop-drop, drop_all, nil_from_length}
use Rattle.std.proofs.lemmas.Bool.{cases_lt, lt-ltb, le-ltb, cond-true, cond-false}
use Rattle.std.proofs.lemmas.Bool.Decides.{nat_tests}
use Rattle.hexadecimal.specs.Digits.{nibble, digit, digits, both, hexed}
use Rattle.hexadecimal.specs.Pairs.{led, spelled}
use Rattle.hexadecimal.specs.Layers.{hex_ahead, hex_asked, Reading}
use Rattle.hexadecimal.specs.Laws.{no_more, one_more, LongestRun, SpellsLongestRun, ReadsWhatWasWritten}

-- A digit is the digit of its own value.
pub nibble_digit : (n : ℕ) → n < 16 → nibble (digit n) ≡ Some n
nibble_digit n h = grind (arith, nat_tests)

pub spelled_digits : (b : ℕ) (text : List ℕ) → b < 256 → spelled (digits b ++ text) ≡ b ∷ spelled text
spelled_digits b text h =
    let p : nibble (digit (b / 16)) ≡ Some (b / 16) = nibble_digit (b / 16) (omega arith) in
    let q : nibble (digit (b % 16)) ≡ Some (b % 16) = nibble_digit (b % 16) (omega arith) in
    let r : b / 16 * 16 + b % 16 ≡ b = omega arith in
    ap (λ o. led (both o (nibble (digit (b % 16)))) (spelled text)) p ∙ ap (λ o. led (both (Some (b / 16)) o) (spelled text)) q ∙ ap (λ n. n ∷ spelled text) r

pub reads_what_was_written : ReadsWhatWasWritten
reads_what_was_written [] rest h = refl
reads_what_was_written (b ∷ bytes) rest h =
    spelled_digits b (hexed bytes ++ rest) (h 0) ∙ ap (λ l. b ∷ l) (reads_what_was_written bytes rest (λ i. h (suc i)))

-- The longest run: the pairs that spell, then what no longer begins with a pair.
broken : (a b : ℕ) (text : List ℕ) → both (nibble a) (nibble b) ≡ None → LongestRun (a ∷ b ∷ text) []
broken a b text h =
    record {
      run = [];
      rest = a ∷ b ∷ text;
      whole = refl;
      spells = no_more;
      ends = λ c d more e. ap (λ (l : List ℕ). both (nibble (get_or l 0 0)) (nibble (get_or l 1 0))) (sym e) ∙ h;
    }

longer : (a b : ℕ) (text : List ℕ) (x y : Option ℕ) → nibble a ≡ x → nibble b ≡ y → LongestRun text (spelled text) → LongestRun (a ∷ b ∷ text) (led (both x y) (spelled text))
longer a b text None None p q l = broken a b text (ap (λ v. both v (nibble b)) p ∙ ap (both None) q)
longer a b text None (Some low) p q l = broken a b text (ap (λ v. both v (nibble b)) p ∙ ap (both None) q)
longer a b text (Some high) None p q l = broken a b text (ap (λ v. both v (nibble b)) p ∙ ap (both (Some high)) q)
longer a b text (Some high) (Some low) p q l =
    record { run = a ∷ b ∷ l.run; rest = l.rest; whole = ap (λ t. a ∷ b ∷ t) l.whole; spells = one_more a b high low l.run (spelled text) p q l.spells; ends = l.ends }

pub spells_longest_run : SpellsLongestRun
spells_longest_run [] = record { run = []; rest = []; whole = refl; spells = no_more; ends = λ a b more e. absurd (omega (arith, ap length e)) }
spells_longest_run (a ∷ []) = record { run = []; rest = a ∷ []; whole = refl; spells = no_more; ends = λ c d more e. absurd (omega (arith, ap length e)) }
spells_longest_run (a ∷ b ∷ text) = longer a b text (nibble a) (nibble b) refl refl (spells_longest_run text)

-- The first pair of a text.
pub head_pair : (text two : List ℕ) (o : Option ℕ) → 2 ≤ length text → two ≡ take 2 text
    → both (nibble (get_or two 0 0)) (nibble (get_or two 1 0)) ≡ o → spelled text ≡ led o (spelled (drop 2 text))
head_pair [] two o h p e = absurd (omega arith)
head_pair (x ∷ []) two o h p e = absurd (omega arith)
head_pair (x ∷ y ∷ text) two o h p e =
    ap (λ v. led v (spelled text)) (ap (λ q. both (nibble (get_or q 0 0)) (nibble (get_or q 1 0))) (sym p) ∙ e)

pub head_short : (text : List ℕ) → length text < 2 → spelled text ≡ []
head_short [] h = refl
head_short (x ∷ []) h = refl
head_short (x ∷ y ∷ text) h = absurd (omega arith)

-- Where a byte is spelled, the rest is spelled by what follows its pair.
after_pair : (o : Option ℕ) (text : List ℕ) → 1 ≤ length (led o (spelled text)) → length (led o (spelled text)) ≡ length (spelled text) + 1
after_pair None text h = absurd (omega arith)
after_pair (Some b) text h = omega arith

pub length_spelled : (text : List ℕ) → 1 ≤ length (spelled text) → length (spelled text) ≡ length (spelled (drop 2 text)) + 1
length_spelled [] h = absurd (omega arith)
length_spelled (x ∷ []) h = absurd (omega arith)
length_spelled (x ∷ y ∷ text) h = after_pair (both (nibble x) (nibble y)) text h

-- A source layer that was asked for k bytes: for fewer than it has, or for more.
asked_within : (k : ℕ) (text : List ℕ) → k ≤ length (spelled text) → hex_asked k false text ≡ record { ended = false; text = drop (2 * k) text }
asked_within k text h = cond-false _ _ _ (le-ltb (length (spelled text)) k h)

asked_over : (k : ℕ) (text : List ℕ) → length (spelled text) < k → hex_asked k false text ≡ record { ended = true; text = drop (2 * length (spelled text) + 2) text }
asked_over k text h = cond-true _ _ _ (lt-ltb (length (spelled text)) k h)

pub asked_none : (ended : Bool) (text : List ℕ) → ◌≡◌ {A = Reading} (record { ended = ended; text = text }) (hex_asked 0 ended text)
asked_none true text = refl
asked_none false text = sym (asked_within 0 text (omega arith))

-- A source layer that is asked for a byte and has none, or one.
pub asked_broken : (text : List ℕ) (k : ℕ) → spelled text ≡ [] → hex_asked (k + 1) false text ≡ record { ended = true; text = drop 2 text }
asked_broken text k e =
    let z : length (spelled text) ≡ 0 = ap length e in
    asked_over (k + 1) text (omega arith) ∙ ap (λ n. record { ended = true; text = drop (2 * n + 2) text }) z

pub asked_pair : (text : List ℕ) → 1 ≤ length (spelled text) → hex_asked 1 false text ≡ record { ended = false; text = drop 2 text }
asked_pair text h = asked_within 1 text h

-- A first byte asked for, then k more.
more_after_pair : (k : ℕ) (text : List ℕ) → 1 ≤ length (spelled text) → hex_asked k false (drop 2 text) ≡ hex_asked (k + 1) false text
more_after_pair k text h =
    let n = length (spelled (drop 2 text)) in
    let l : length (spelled text) ≡ n + 1 = length_spelled text h in
    go n l (cases_lt n k)
  where
    go : (n : ℕ) → length (spelled text) ≡ length (spelled (drop 2 text)) + 1 → (length (spelled (drop 2 text)) < k) ⊎ (k ≤ length (spelled (drop 2 text))) → hex_asked k false (drop 2 text) ≡ hex_asked (k + 1) false text
    go n l (inl b) =
        let m : 2 + (2 * length (spelled (drop 2 text)) + 2) ≡ 2 * length (spelled text) + 2 = omega arith in
        asked_over k (drop 2 text) b
        ∙ ap (λ t. record { ended = true; text = t }) (drop-drop (2 * length (spelled (drop 2 text)) + 2) 2 text ∙ ap (λ i. drop i text) m)
        ∙ sym (asked_over (k + 1) text (omega arith))
    go n l (inr b) =
        let m : 2 + 2 * k ≡ 2 * (k + 1) = omega arith in
        asked_within k (drop 2 text) b
        ∙ ap (λ t. record { ended = false; text = t }) (drop-drop (2 * k) 2 text ∙ ap (λ i. drop i text) m)
        ∙ sym (asked_within (k + 1) text (omega arith))

then_more : (k : ℕ) (text : List ℕ) (r : Reading) → r ≡ hex_asked 1 false text → (length (spelled text) < 1) ⊎ (1 ≤ length (spelled text))
    → hex_asked k r.ended r.text ≡ hex_asked (k + 1) false text
then_more k text r e (inl h) =
    let z : spelled text ≡ [] = nil_from_length (spelled text) (omega arith) in
    ap (λ (q : Reading). hex_asked k q.ended q.text) (e ∙ asked_broken text 0 z) ∙ sym (asked_broken text k z)
then_more k text r e (inr h) =
    ap (λ (q : Reading). hex_asked k q.ended q.text) (e ∙ asked_pair text h) ∙ more_after_pair k text h

pub asked_then : (k : ℕ) (ended : Bool) (text : List ℕ) (r : Reading) → r ≡ hex_asked 1 ended text → hex_asked k r.ended r.text ≡ hex_asked (k + 1) ended text
asked_then k true text r e = ap (λ (q : Reading). hex_asked k q.ended q.text) e
asked_then k false text r e = then_more k text r e (cases_lt (length (spelled text)) 1)

-- The three ways of one step: a pair came, it was broken, or the text ended within it.
pub pair_came : (ended : Bool) (old new two : List ℕ) (b : ℕ) → ended ≡ false → 2 ≤ length old → two ≡ take 2 old → new ≡ drop 2 old
    → Some b ≡ both (nibble (get_or two 0 0)) (nibble (get_or two 1 0))
    → (hex_ahead ended old ≡ b ∷ hex_ahead ended new) × (◌≡◌ {A = Reading} (record { ended = ended; text = new }) (hex_asked 1 ended old))
pair_came true old new two b f h p n e = let z : ◌≡◌ {A = ℕ} 0 1 = cc in absurd (omega arith)
pair_came false old new two b f h p n e =
    let s : spelled old ≡ b ∷ spelled (drop 2 old) = head_pair old two (Some b) h p (sym e) in
    let l : 1 ≤ length (spelled old) = omega (arith, ap length s) in
    (s ∙ ap (λ t. b ∷ spelled t) (sym n), ap (λ t. record { ended = false; text = t }) n ∙ sym (asked_pair old l))

pub pair_broke : (ended : Bool) (old new two : List ℕ) → ended ≡ false → 2 ≤ length old → two ≡ take 2 old → new ≡ drop 2 old
    → None ≡ both (nibble (get_or two 0 0)) (nibble (get_or two 1 0))
    → (hex_ahead ended old ≡ []) × (◌≡◌ {A = Reading} (record { ended = true; text = new }) (hex_asked 1 ended old))
pair_broke true old new two f h p n e = let z : ◌≡◌ {A = ℕ} 0 1 = cc in absurd (omega arith)
pair_broke false old new two f h p n e =
    let s : spelled old ≡ [] = head_pair old two None h p (sym e) in
    (s, ap (λ t. record { ended = true; text = t }) n ∙ sym (asked_broken old 0 s))

pub pair_lacked : (ended : Bool) (old new : List ℕ) → ended ≡ false → length old < 2 → new ≡ []
    → (hex_ahead ended old ≡ []) × (◌≡◌ {A = Reading} (record { ended = true; text = new }) (hex_asked 1 ended old))
pair_lacked true old new f h n = let z : ◌≡◌ {A = ℕ} 0 1 = cc in absurd (omega arith)
pair_lacked false old new f h n =
    let s : spelled old ≡ [] = head_short old h in
    (s, ap (λ t. record { ended = true; text = t }) (n ∙ sym (drop_all 2 old (omega arith))) ∙ sym (asked_broken old 0 s))

-- A layer that has ended takes nothing more, and has nothing ahead.
pub asked_ended : (k : ℕ) (ended : Bool) (text : List ℕ) → ended ≡ true → ◌≡◌ {A = Reading} (record { ended = ended; text = text }) (hex_asked k ended text)
asked_ended k true text e = refl
asked_ended k false text e = let z : ◌≡◌ {A = ℕ} 0 1 = cc in absurd (omega arith)

pub ahead_ended : (ended : Bool) (text : List ℕ) → ended ≡ true → hex_ahead ended text ≡ []
ahead_ended ended text e = ap (λ q. hex_ahead q text) e
