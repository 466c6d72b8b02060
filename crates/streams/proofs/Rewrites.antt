-- Lists that are overwritten from a place on.
use Rattle.std.proofs.Common.{◌≡◌, ℕ, ◌+◌, ◌-◌, ◌<◌, ◌≤◌, min, List, [], ◌∷◌, ◌++◌, length, get_or, take, drop, set, sym, ap, ◌∙◌, add-zero, add_assoc, arith, rules}
use borrow.Rule.Slice.PartMut.{put_mid, post_of, Post-is}
use Rattle.std.proofs.lemmas.List.{take-append-drop, take_all, take_more, drop_more, set_at, append_assoc, length-take, length-take-le, length-append, length-drop, length_push, take_at, drop_at, places, same_lists}
use Rattle.streams.specs.Memories.{overwritten}

pub overwritten_none : (xs : List ℕ) (p : ℕ) → xs ≡ overwritten xs p []
overwritten_none xs p = sym (simp (add-zero, take-append-drop))

pub length_overwritten : (xs ys : List ℕ) (p : ℕ) → p + length ys ≤ length xs → length (overwritten xs p ys) ≡ length xs
length_overwritten xs ys p h = simp (length-append, length-take, length-drop) (omega arith)

-- Overwriting twice, the second time from where the first ended.
pub overwritten_twice : (xs a b : List ℕ) (p : ℕ) → overwritten (overwritten xs p a) (p + length a) b ≡ overwritten xs p (a ++ b)
overwritten_twice xs a b p = same_lists _ _ (simp (length-append, length-take, length-drop) (omega arith)) (λ k d h. grind (arith, places))

-- One byte more, written into its place.
pub overwritten_more : (xs bytes : List ℕ) (p i : ℕ) → i < length bytes → p + length bytes ≤ length xs
    → set (overwritten xs p (take i bytes)) (p + i) (get_or bytes i 0) ≡ overwritten xs p (take (i + 1) bytes)
overwritten_more xs bytes p i h k =
    let t = take i bytes in
    let b = get_or bytes i 0 in
    let e : length t ≡ i = length-take-le i bytes (omega arith) in
    let m : take (i + 1) bytes ≡ t ++ b ∷ [] = take_more bytes i 0 h in
    let d : drop (p + i) xs ≡ get_or xs (p + i) 0 ∷ drop (p + i + 1) xs = drop_more xs (p + i) 0 (omega arith) in
    let f : length (take p xs ++ t) ≡ p + i = simp (length-append, length-take) (omega arith) in
    let s : set ((take p xs ++ t) ++ get_or xs (p + i) 0 ∷ drop (p + i + 1) xs) (p + i) b ≡ (take p xs ++ t) ++ b ∷ drop (p + i + 1) xs
    = set_at (take p xs ++ t) (get_or xs (p + i) 0) (drop (p + i + 1) xs) b (p + i) f in
    rw (m, length_push, e, d, ← append_assoc, s, append_assoc, append_assoc, add_assoc)

pub overwritten_step : (xs ys bytes : List ℕ) (p i : ℕ) → ys ≡ overwritten xs p (take i bytes) → i < length bytes → p + length bytes ≤ length xs
    → set ys (p + i) (get_or bytes i 0) ≡ overwritten xs p (take (i + 1) bytes)
overwritten_step xs ys bytes p i e h k = ap (λ l. set l (p + i) (get_or bytes i 0)) e ∙ overwritten_more xs bytes p i h k

pub overwritten_all : (xs ys bytes : List ℕ) (p i : ℕ) → ys ≡ overwritten xs p (take i bytes) → length bytes ≤ i → ys ≡ overwritten xs p bytes
overwritten_all xs ys bytes p i e h = e ∙ ap (λ l. overwritten xs p l) (take_all i bytes h)

-- The front and the rest of a list that was overwritten.
pub take_overwritten : (xs ys : List ℕ) (p : ℕ) → p + length ys ≤ length xs → take (p + length ys) (overwritten xs p ys) ≡ take p xs ++ ys
take_overwritten xs ys p h =
    let f : length (take p xs ++ ys) ≡ p + length ys = simp (length-append, length-take) (omega arith) in
    rw (← append_assoc) (take_at (take p xs ++ ys) (drop (p + length ys) xs) (p + length ys) f)

pub drop_overwritten : (xs ys : List ℕ) (p : ℕ) → p + length ys ≤ length xs → drop (p + length ys) (overwritten xs p ys) ≡ drop (p + length ys) xs
drop_overwritten xs ys p h =
    let f : length (take p xs ++ ys) ≡ p + length ys = simp (length-append, length-take) (omega arith) in
    rw (← append_assoc) (drop_at (take p xs ++ ys) (drop (p + length ys) xs) (p + length ys) f)

pub overwritten_take : (xs ys : List ℕ) (p n : ℕ) → p + length ys ≤ n → n ≤ length xs → take n (overwritten xs p ys) ≡ overwritten (take n xs) p ys
overwritten_take xs ys p n h k = same_lists _ _ (search (rules, places)) (λ j d l. grind (arith, places))

pub overwritten_drop : (xs ys : List ℕ) (p n : ℕ) → p + length ys ≤ n → n ≤ length xs → drop n (overwritten xs p ys) ≡ drop n xs
overwritten_drop xs ys p n h k = same_lists _ _ (simp (length-append, length-take, length-drop) (omega arith)) (λ j d l. grind (arith, places))

-- What a write to a part of a slice leaves.
pub put_mid_is : (xs ys bytes : List ℕ) (a : ℕ) → ys ≡ bytes → put_mid a ((a + length bytes) - a) xs ys ≡ overwritten xs a bytes
put_mid_is xs ys bytes a e = ap (λ l. take a xs ++ (l ++ post_of a ((a + length bytes) - a) xs)) e ∙ ap (λ l. take a xs ++ (bytes ++ l)) (Post-is a (a + length bytes) xs (omega arith))

-- A front whose length may be past the list's end.
pub take_min : (n : ℕ) (xs : List ℕ) → take (min n (length xs)) xs ≡ take n xs
take_min n xs = same_lists _ _ (simp length-take (omega arith)) (λ k d h. grind (arith, places))

pub drop_min : (n : ℕ) (xs : List ℕ) → drop (min n (length xs)) xs ≡ drop n xs
drop_min n xs = same_lists _ _ (simp length-drop (omega arith)) (λ k d h. grind (arith, places))
