-- Extension by the sign keeps the number.
use Rattle.std.proofs.Common.{◌≡◌, ℕ, zero, suc, ◌+◌, ◌*◌, ◌^◌, Bool, true, false, cond, leb, List, [], ◌∷◌, ◌++◌, length, replicate, pos, ◌-ℤ◌, sym, refl, ap, ◌∙◌, arith}
use native.Mathlib.Nat.{pow-succ'}
use Rattle.std.proofs.lemmas.Int.{ints}
use Rattle.ttlv.specs.Numbers.{of_be, padding}
use Rattle.ttlv.specs.Kinds.{sign_byte, twos, ExtensionKeepsTheNumber}

-- Equal differences.
same_less : (a b m n : ℕ) → a + n ≡ b + m → pos a -ℤ pos m ≡ pos b -ℤ pos n
same_less a b m n h = omega (arith, ints)

-- One byte of the sign in front: the number stays, and so does the sign.
one_in_front : (b : ℕ) (bytes : List ℕ) (x : Bool) → leb 0x80 b ≡ x
    → (twos (cond x 0xFF 0x00 ∷ b ∷ bytes) ≡ twos (b ∷ bytes)) × (sign_byte (cond x 0xFF 0x00 ∷ b ∷ bytes) ≡ cond x 0xFF 0x00)
one_in_front b bytes true e =
    let n = length (b ∷ bytes) in
    let p = pow-succ' 256 n in
    let h : 255 * 256 ^ n + of_be (b ∷ bytes) + 256 ^ n ≡ of_be (b ∷ bytes) + 256 ^ suc n = omega arith in (
      same_less (255 * 256 ^ n + of_be (b ∷ bytes)) (of_be (b ∷ bytes)) (256 ^ suc n) (256 ^ n) h
          ∙ ap (λ y. cond y (pos (of_be (b ∷ bytes)) -ℤ pos (256 ^ n)) (pos (of_be (b ∷ bytes)))) (sym e),
      refl,
    )
one_in_front b bytes false e =
    let n = length (b ∷ bytes) in
    let h : 0 * 256 ^ n + of_be (b ∷ bytes) ≡ of_be (b ∷ bytes) = omega arith in
    (ap pos h ∙ ap (λ y. cond y (pos (of_be (b ∷ bytes)) -ℤ pos (256 ^ n)) (pos (of_be (b ∷ bytes)))) (sym e), refl)

in_front : (s : ℕ) (bytes : List ℕ) → sign_byte bytes ≡ s → (twos (s ∷ bytes) ≡ twos bytes) × (sign_byte (s ∷ bytes) ≡ s)
in_front s [] h = (ap (λ b. twos (b ∷ [])) (sym h), ap (λ b. sign_byte (b ∷ [])) (sym h) ∙ h)
in_front s (b ∷ bytes) h =
    let p = one_in_front b bytes (leb 0x80 b) refl in
    (ap (λ c. twos (c ∷ b ∷ bytes)) (sym h) ∙ p.0, ap (λ c. sign_byte (c ∷ b ∷ bytes)) (sym h) ∙ p.1 ∙ h)

-- Any number of them.
in_front_all : (k s : ℕ) (bytes : List ℕ) → sign_byte bytes ≡ s → (twos (replicate k s ++ bytes) ≡ twos bytes) × (sign_byte (replicate k s ++ bytes) ≡ s)
in_front_all zero s bytes h = (refl, h)
in_front_all (suc k) s bytes h =
    let p = in_front_all k s bytes h in
    let q = in_front s (replicate k s ++ bytes) p.1 in
    (q.0 ∙ p.0, q.1)

pub extension_keeps_the_number : ExtensionKeepsTheNumber
extension_keeps_the_number bytes = (in_front_all (padding (length bytes)) (sign_byte bytes) bytes refl).0
