-- The hexadecimal sink layer, over what lies below it.
use Rattle.std.proofs.Common.{◌≡◌, ℕ, suc, ◌+◌, ◌-◌, ◌*◌, ◌/◌, ◌%◌, ◌<◌, ◌≤◌, min, List, [], ◌∷◌, ◌++◌, length, get_or, take, drop, set, unwrap_or, sym, refl, ap, ◌∙◌, arith}
use Rattle.std.proofs.lemmas.List.{drop_at, drop_more, set_at, set_split, append-nil, take_all, take_more, take-append-drop, get_or_at, length-append, length-take-le}
use Rattle.std.proofs.lemmas.Bool.Decides.{nat_tests}
use Rattle.streams.specs.Sources.{Handed}
use Rattle.streams.specs.Memories.{overwritten}
use Rattle.streams.specs.Sinks.{Store, grown, patched}
use Rattle.streams.proofs.Rewrites.{length_overwritten}
use Rattle.streams.proofs.Growing.{same_store, same_memory, patched_twice}
use Rattle.hexadecimal.specs.Digits.{nibble_or_0, digit, digits, hexed}
use Rattle.hexadecimal.specs.Pairs.{paired, spelled}
use Rattle.hexadecimal.specs.Layers.{hex_room, hex_store}
use Rattle.hexadecimal.proofs.Spelled.{nibble_digit, reads_what_was_written}

pub length_paired : (xs : List ℕ) → length (paired xs) ≡ length xs / 2
length_paired [] = refl
length_paired (a ∷ []) = refl
length_paired (a ∷ b ∷ xs) = let e = length_paired xs in omega arith

paired_append : (xs ys : List ℕ) → length xs % 2 ≡ 0 → paired (xs ++ ys) ≡ paired xs ++ paired ys
paired_append [] ys e = refl
paired_append (a ∷ []) ys e = absurd (omega arith)
paired_append (a ∷ b ∷ xs) ys e = ap (λ l. (nibble_or_0 a * 16 + nibble_or_0 b) ∷ l) (paired_append xs ys (omega arith))

-- The digits of a byte spell it.
paired_digits : (b : ℕ) (ys : List ℕ) → b < 256 → paired (digits b ++ ys) ≡ b ∷ paired ys
paired_digits b ys h =
    let p : nibble_or_0 (digit (b / 16)) ≡ b / 16 = ap (λ o. unwrap_or o 0) (nibble_digit (b / 16) (omega arith)) in
    let q : nibble_or_0 (digit (b % 16)) ≡ b % 16 = ap (λ o. unwrap_or o 0) (nibble_digit (b % 16) (omega arith)) in
    let r : nibble_or_0 (digit (b / 16)) * 16 + nibble_or_0 (digit (b % 16)) ≡ b = omega arith in
    ap (λ n. n ∷ paired ys) r

-- The pair at a place: what is before it, the two characters, and what is after it.
split2 : (xs : List ℕ) (n : ℕ) → n + 2 ≤ length xs → xs ≡ take n xs ++ (get_or xs n 0 ∷ get_or xs (n + 1) 0 ∷ drop (n + 2) xs)
split2 xs n h =
    let a : drop n xs ≡ get_or xs n 0 ∷ drop (n + 1) xs = drop_more xs n 0 (omega arith) in
    let b : drop (n + 1) xs ≡ get_or xs (n + 1) 0 ∷ drop (n + 1 + 1) xs = drop_more xs (n + 1) 0 (omega arith) in
    let d : drop (n + 1 + 1) xs ≡ drop (n + 2) xs = ap (λ k. drop k xs) (let e : n + 1 + 1 ≡ n + 2 = omega arith in e) in
    sym (take-append-drop n xs) ∙ ap (λ l. take n xs ++ l) (a ∙ ap (λ l. get_or xs n 0 ∷ l) (b ∙ ap (λ l. get_or xs (n + 1) 0 ∷ l) d))

front : (xs : List ℕ) (p : ℕ) → 2 * p + 2 ≤ length xs → (length (take (2 * p) xs) % 2 ≡ 0) × (length (paired (take (2 * p) xs)) ≡ p)
front xs p h =
    let l : length (take (2 * p) xs) ≡ 2 * p = length-take-le (2 * p) xs (omega arith) in
    let q = length_paired (take (2 * p) xs) in
    (omega arith, omega arith)

paired_split : (xs : List ℕ) (p : ℕ) → 2 * p + 2 ≤ length xs
    → paired xs ≡ paired (take (2 * p) xs) ++ ((nibble_or_0 (get_or xs (2 * p) 0) * 16 + nibble_or_0 (get_or xs (2 * p + 1) 0)) ∷ paired (drop (2 * p + 2) xs))
paired_split xs p h = ap paired (split2 xs (2 * p) h) ∙ paired_append (take (2 * p) xs) _ (front xs p h).0

pub paired_at : (xs : List ℕ) (p : ℕ) → 2 * p + 2 ≤ length xs
    → nibble_or_0 (get_or xs (2 * p) 0) * 16 + nibble_or_0 (get_or xs (2 * p + 1) 0) ≡ get_or (paired xs) p 0
paired_at xs p h =
    sym (ap (λ l. get_or l p 0) (paired_split xs p h)
    ∙ get_or_at (paired (take (2 * p) xs)) (nibble_or_0 (get_or xs (2 * p) 0) * 16 + nibble_or_0 (get_or xs (2 * p + 1) 0)) (paired (drop (2 * p + 2) xs)) 0 p (front xs p h).1)

paired_patch : (xs : List ℕ) (p b : ℕ) → 2 * p + 2 ≤ length xs → b < 256 → paired (overwritten xs (2 * p) (digits b)) ≡ overwritten (paired xs) p (b ∷ [])
paired_patch xs p b h l =
    let v = nibble_or_0 (get_or xs (2 * p) 0) * 16 + nibble_or_0 (get_or xs (2 * p + 1) 0) in
    let n = length_paired xs in
    let one : suc p ≡ p + 1 = omega arith in
    paired_append (take (2 * p) xs) (digits b ++ drop (2 * p + 2) xs) (front xs p h).0
    ∙ ap (λ m. paired (take (2 * p) xs) ++ m) (paired_digits b (drop (2 * p + 2) xs) l)
    ∙ sym (ap (λ m. set m p b) (paired_split xs p h) ∙ set_at (paired (take (2 * p) xs)) v (paired (drop (2 * p + 2) xs)) b p (front xs p h).1)
    ∙ set_split (paired xs) p b (omega arith)
    ∙ ap (λ k. take p (paired xs) ++ b ∷ drop k (paired xs)) one

-- A room of the layer that is not 0 says that the count below is even.
hex_even : (n r : ℕ) → 0 < hex_room n r → (n % 2 ≡ 0) × (hex_room n r ≡ r / 2)
hex_even n r h = (grind (arith, nat_tests), grind (arith, nat_tests))

hex_room_even : (n r : ℕ) → n % 2 ≡ 0 → hex_room n r ≡ r / 2
hex_room_even n r h = grind (arith, nat_tests)

-- The digits of a byte put below are the byte put above.
grown_pair : (n : ℕ) (t : Store) (b : ℕ) → 0 < (hex_store n t).memory.room → b < 256 → hex_store n (grown t (digits b)) ≡ grown (hex_store n t) (b ∷ [])
grown_pair n t b h l =
    let held = t.memory.held in
    let room = t.memory.room in
    let e = hex_even (length held) room h in
    let more : length (held ++ digits b) ≡ length held + 2 = length-append held (digits b) in
    let f = hex_room_even (length (held ++ digits b)) (room - 2) (omega (arith, e.0)) in
    same_store _ _
    (same_memory _ _
    (paired_append held (digits b) e.0 ∙ ap (λ m. paired held ++ m) (paired_digits b [] l))
    (omega (arith, e.1))
    refl)
    refl refl

-- The digits of a byte written over a pair below are the byte written over the one above.
patched_pair : (n : ℕ) (t : Store) (p b : ℕ) → 2 * p + 2 ≤ length t.memory.held → b < 256 → hex_store n (patched t (2 * p) (digits b)) ≡ patched (hex_store n t) p (b ∷ [])
patched_pair n t p b h l =
    let held = t.memory.held in
    same_store _ _
    (same_memory _ _ (paired_patch held p b h l) (ap (λ q. hex_room q t.memory.room) (length_overwritten held (digits b) (2 * p) h)) refl)
    refl refl

-- One byte put, through its pair.
pub hex_put_one : (n : ℕ) (t u : Store) (ds : List ℕ) (b : ℕ) → ds ≡ digits b → (length ds ≤ t.memory.room) × (u ≡ grown t ds) → 0 < (hex_store n t).memory.room → b < 256
    → (1 ≤ (hex_store n t).memory.room) × (hex_store n u ≡ grown (hex_store n t) (b ∷ []))
hex_put_one n t u ds b d p h l = (h, ap (hex_store n) (p.1 ∙ ap (grown t) d) ∙ grown_pair n t b h l)

-- While a byte is left to put, there is room.
pub hex_left : (s t : Store) (bytes : List ℕ) (i : ℕ) → (t ≡ grown s (take i bytes)) × (i ≤ s.memory.room) → i < length bytes → length bytes ≤ s.memory.room → 0 < t.memory.room
hex_left s t bytes i e h k =
    let l : length (take i bytes) ≡ i = length-take-le i bytes (omega arith) in
    let r : t.memory.room ≡ s.memory.room - length (take i bytes) = ap (λ x. x.memory.room) e.0 in
    omega arith

pub hex_no_break : (n : ℕ) (t : Store) (ds : List ℕ) (b : ℕ) → ds ≡ digits b → t.memory.room < length ds → 0 < (hex_store n t).memory.room → ⊥
hex_no_break n t ds b d o h =
    let e = hex_even (length t.memory.held) t.memory.room h in
    let two : length ds ≡ 2 = ap length d in
    omega (arith, e.1)

-- One byte patched, through its pair.
pub hex_patch_one : (n₀ n : ℕ) (s t u : Store) (bytes ds : List ℕ) (p i : ℕ) → ds ≡ digits (get_or bytes i 0) → get_or bytes i 0 < 256
    → (2 * (p + i) + length ds ≤ length t.memory.held) × (u ≡ patched t (2 * (p + i)) ds)
    → (hex_store n t ≡ patched (hex_store n₀ s) p (take i bytes)) × (length t.memory.held ≡ length s.memory.held)
    → i < length bytes → p + length bytes ≤ length s.memory.held / 2
    → (hex_store n u ≡ patched (hex_store n₀ s) p (take (i + 1) bytes)) × (length u.memory.held ≡ length s.memory.held)
hex_patch_one n₀ n s t u bytes ds p i d l a v h k =
    let b = get_or bytes i 0 in
    let m : length t.memory.held ≡ length s.memory.held = v.1 in
    let w : 2 * (p + i) + 2 ≤ length t.memory.held = omega arith in
    let e : u ≡ patched t (2 * (p + i)) (digits b) = a.1 ∙ ap (patched t (2 * (p + i))) d in
    let n₁ : p + i ≡ p + length (take i bytes) = ap (λ j. p + j) (sym (length-take-le i bytes (omega arith))) in (
      ap (hex_store n) e ∙ patched_pair n t (p + i) b w l ∙ ap (λ x. patched x (p + i) (b ∷ [])) v.0
          ∙ ap (λ q. patched (patched (hex_store n₀ s) p (take i bytes)) q (b ∷ [])) n₁
          ∙ patched_twice (hex_store n₀ s) p (take i bytes) (b ∷ []) ∙ ap (patched (hex_store n₀ s) p) (sym (take_more bytes i 0 h)),
      ap (λ x. length x.memory.held) e ∙ length_overwritten t.memory.held (digits b) (2 * (p + i)) w ∙ m,
    )

pub hex_patch_all : (n₀ n : ℕ) (s t : Store) (bytes : List ℕ) (p i : ℕ)
    → (hex_store n t ≡ patched (hex_store n₀ s) p (take i bytes)) × (length t.memory.held ≡ length s.memory.held) → length bytes ≤ i
    → p + length bytes ≤ length s.memory.held / 2
    → (p + length bytes ≤ length (hex_store n₀ s).memory.held) × (hex_store n t ≡ patched (hex_store n₀ s) p bytes)
hex_patch_all n₀ n s t bytes p i v h k =
    let nn = length_paired s.memory.held in
    (omega arith, v.0 ∙ ap (patched (hex_store n₀ s) p) (take_all i bytes h))

-- What a source layer reads of the digits that were written.
pub read_back : (old new : Store) (bytes buf buf' ahead ahead' : List ℕ) (from m : ℕ) → new ≡ grown old (hexed bytes) → from ≡ length old.memory.held
    → ((i : ℕ) → get_or bytes i 0 < 256) → ahead ≡ spelled (drop from new.memory.held) → Handed ahead ahead' buf buf' m → m ≡ min (length buf) (length ahead)
    → (m ≡ min (length buf) (length bytes)) × (buf' ≡ take m bytes ++ drop m buf)
read_back old new bytes buf buf' ahead ahead' from m e f h a r most =
    let held = old.memory.held in
    let text : drop from new.memory.held ≡ hexed bytes = ap (λ s. drop from s.memory.held) e ∙ drop_at held (hexed bytes) from (sym f) in
    let back : spelled (hexed bytes) ≡ bytes = ap spelled (sym (append-nil (hexed bytes))) ∙ reads_what_was_written bytes [] h ∙ append-nil bytes in
    let all : ahead ≡ bytes = a ∙ ap spelled text ∙ back in
    (most ∙ ap (λ l. min (length buf) (length l)) all, r.filled ∙ ap (λ l. take m l ++ drop m buf) all)
