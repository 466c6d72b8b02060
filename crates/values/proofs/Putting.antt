-- Values put into sinks.
use Rattle.std.proofs.Common.{◌≡◌, ℕ, ◌+◌, ◌-◌, ◌%◌, ◌<◌, ◌≤◌, List, ◌++◌, length, take, replicate, Ok, Err, Result, sym, refl, ap, ◌∙◌, arith}
use Rattle.std.proofs.lemmas.List.{length-append, length-replicate, append_assoc, take-replicate, take_at}
use Rattle.std.proofs.lemmas.Bool.{lt-ltb, le-ltb, cond-true, cond-false}
use Rattle.std.proofs.lemmas.Bool.Decides.{nat_tests}
use Rattle.streams.specs.declared.refusals.PutRefusal.{PutRefusal}
use Rattle.streams.specs.Sinks.{Store, grown, Puts}
use Rattle.streams.proofs.Growing.{grown_twice}
use Rattle.ttlv.specs.Numbers.{be, padding}
use Rattle.ttlv.specs.Kinds.{value_item, extended, sign_byte}
use Rattle.values.specs.Writing.{Written}

-- Padding is short, and reaches a multiple of eight.
pub padding_small : (n : ℕ) → padding n ≤ 8
padding_small n = grind (arith, nat_tests)

pub padding_eights : (n : ℕ) → (n + padding n) % 8 ≡ 0
padding_eights n = grind (arith, nat_tests)

-- A front of equal bytes.
pub fronts : (k n b : ℕ) → k ≡ padding n → take (k - 0) (replicate 8 b) ≡ replicate (padding n) b
fronts k n b e =
    let h : padding n ≤ 8 = padding_small n in
    let f : k - 0 ≡ padding n = omega arith in
    ap (λ j. take j (replicate 8 b)) f ∙ take-replicate (padding n) 8 b h

-- The front of a Big Integer, as it is put.
pub front_of : (bytes : List ℕ) (k b : ℕ) → k ≡ padding (length bytes) → b ≡ sign_byte bytes → take (k - 0) (replicate 8 b) ++ bytes ≡ extended bytes
front_of bytes k b e f = ap (λ l. l ++ bytes) (fronts k (length bytes) b e ∙ ap (replicate (padding (length bytes))) f)

-- Two puts, and three.
pub two_puts : (s₀ s₁ s₂ : Store) (a b all : List ℕ) → s₁ ≡ grown s₀ a → s₂ ≡ grown s₁ b → a ++ b ≡ all → s₂ ≡ grown s₀ all
two_puts s₀ s₁ s₂ a b all p q e = q ∙ ap (λ s. grown s b) p ∙ grown_twice s₀ a b ∙ ap (grown s₀) e

pub three_puts : (s₀ s₁ s₂ s₃ : Store) (bytes len zeros : List ℕ) → len ≡ be 4 (length bytes) → zeros ≡ replicate (padding (length bytes)) 0
    → s₁ ≡ grown s₀ len → s₂ ≡ grown s₁ bytes → s₃ ≡ grown s₂ zeros → s₃ ≡ grown s₀ (value_item bytes)
three_puts s₀ s₁ s₂ s₃ bytes len zeros e z a b c =
    two_puts s₀ s₂ s₃ (len ++ bytes) zeros (value_item bytes) (two_puts s₀ s₁ s₂ len bytes (len ++ bytes) a b refl) c (append_assoc len bytes zeros ∙ rw (e, z))

pub length_value_item : (bytes : List ℕ) → length (value_item bytes) ≡ 4 + length bytes + padding (length bytes)
length_value_item bytes = simp (length-append, length-replicate) (omega arith)

-- A second put after a first that had room for both.
pub puts_then : {X : Type 0} (s₀ s₁ s₂ : Store) (a b all : List ℕ) (r : Result X PutRefusal) → s₁ ≡ grown s₀ a → a ++ b ≡ all → length all ≤ s₀.memory.room → Puts s₁ s₂ b r → Puts s₀ s₂ all r
puts_then s₀ s₁ s₂ a b all (Ok x) p e h q = (h, two_puts s₀ s₁ s₂ a b all p q.1 e)
puts_then s₀ s₁ s₂ a b all (Err x) p e h q =
    let room : s₁.memory.room ≡ s₀.memory.room - length a = ap (λ s. s.memory.room) p in
    let l : length all ≡ length a + length b = ap length (sym e) ∙ length-append a b in
    absurd (omega (arith, q.0))

-- A value of fixed length with its length and its padding.
padding_fixed : (n : ℕ) → 0 < n → n ≤ 8 → padding n ≡ 8 - n
padding_fixed n h k = grind (arith, nat_tests)

pub item_fixed : (bytes len eight : List ℕ) (n : ℕ) → length bytes ≡ n → 0 < n → n ≤ 8 → len ≡ be 4 n → eight ≡ bytes ++ replicate (8 - n) 0 → len ++ eight ≡ value_item bytes
item_fixed bytes len eight n e h k p q =
    ap (λ l. l ++ eight) (p ∙ ap (be 4) (sym e)) ∙ ap (λ l. be 4 (length bytes) ++ l) (q ∙ ap (λ m. bytes ++ replicate m 0) (sym (ap padding e ∙ padding_fixed n h k)))

pub length_fixed : (bytes : List ℕ) (n : ℕ) → length bytes ≡ n → 0 < n → n ≤ 8 → length (value_item bytes) ≡ 12
length_fixed bytes n e h k =
    let l = length_value_item bytes in
    let p : padding (length bytes) ≡ 8 - n = rw e (padding_fixed n h k) in
    omega arith

pub fixed_puts : (s₀ s₁ s₂ : Store) (bytes len eight : List ℕ) (n : ℕ) → length bytes ≡ n → 0 < n → n ≤ 8 → len ≡ be 4 n → eight ≡ bytes ++ replicate (8 - n) 0
    → s₁ ≡ grown s₀ len → s₂ ≡ grown s₁ eight → s₂ ≡ grown s₀ (value_item bytes)
fixed_puts s₀ s₁ s₂ bytes len eight n e h k p q a b = two_puts s₀ s₁ s₂ len eight (value_item bytes) a b (rw (p, q, e, padding_fixed n h k))

-- A value as written: too long, with no room, and whole.
pub too_long : (s : Store) (bytes : List ℕ) → 16777216 < length bytes → Written 15 s s bytes
too_long s bytes h = record { number = sym (cond-true _ _ _ (lt-ltb 16777216 (length bytes) h)); after = sym (cond-true _ _ _ (lt-ltb 16777216 (length bytes) h)) }

pub no_room : (s : Store) (bytes : List ℕ) → length bytes ≤ 16777216 → s.memory.room < length bytes → Written 8 s s bytes
no_room s bytes h k =
    let p = le-ltb 16777216 (length bytes) h in
    let q = lt-ltb s.memory.room (length bytes) k in
    record { number = sym (cond-false _ _ _ p ∙ cond-true _ _ _ q); after = sym (cond-false _ _ _ p ∙ cond-true _ _ _ q) }

pub all_written : (s t : Store) (bytes : List ℕ) → length bytes ≤ 16777216 → length bytes ≤ s.memory.room → t ≡ grown s bytes → Written 0 s t bytes
all_written s t bytes h k e = grind (arith, nat_tests)

-- The front of a list that begins with bytes.
pub front_is : (part bytes rest : List ℕ) (n : ℕ) → part ≡ bytes → length bytes ≡ n → take n (part ++ rest) ≡ bytes
front_is part bytes rest n e h = take_at part rest n (ap length e ∙ h) ∙ e
