-- Numbers read from bytes.
use Rattle.std.proofs.Common.{◌≡◌, ℕ, zero, suc, ◌+◌, ◌*◌, ◌/◌, ◌%◌, ◌^◌, ◌<◌, List, [], ◌∷◌, length, get_or, sym, refl, ap, ◌∙◌, mod-eq_of_lt, mul_assoc, arith}
use native.Mathlib.Nat.{pow-succ', mul-add-div_right, mul-add-mod_self_right}
use lib.Arith.{digits_lt, digits_div, mod-mul}
use Rattle.ttlv.specs.Numbers.{be, of_be}

pub of_be_3 : (b : List ℕ) → length b ≡ 3 → get_or b 0 0 * 65536 + get_or b 1 0 * 256 + get_or b 2 0 ≡ of_be b
of_be_3 [] h = absurd (omega arith)
of_be_3 (x ∷ []) h = absurd (omega arith)
of_be_3 (x ∷ y ∷ []) h = absurd (omega arith)
of_be_3 (x ∷ y ∷ z ∷ []) h = omega arith
of_be_3 (x ∷ y ∷ z ∷ w ∷ l) h = absurd (omega arith)

pub of_be_4 : (b : List ℕ) → length b ≡ 4 → get_or b 0 0 * 16777216 + get_or b 1 0 * 65536 + get_or b 2 0 * 256 + get_or b 3 0 ≡ of_be b
of_be_4 [] h = absurd (omega arith)
of_be_4 (x ∷ []) h = absurd (omega arith)
of_be_4 (x ∷ y ∷ []) h = absurd (omega arith)
of_be_4 (x ∷ y ∷ z ∷ []) h = absurd (omega arith)
of_be_4 (x ∷ y ∷ z ∷ w ∷ []) h = omega arith
of_be_4 (x ∷ y ∷ z ∷ w ∷ u ∷ l) h = absurd (omega arith)

pub of_be_8 : (b : List ℕ) → length b ≡ 8
    → get_or b 0 0 * 72057594037927936 + get_or b 1 0 * 281474976710656 + get_or b 2 0 * 1099511627776 + get_or b 3 0 * 4294967296 + get_or b 4 0 * 16777216 + get_or b 5 0 * 65536 + get_or b 6 0 * 256 + get_or b 7 0 ≡ of_be b
of_be_8 [] h = absurd (omega arith)
of_be_8 (a ∷ []) h = absurd (omega arith)
of_be_8 (a ∷ b ∷ []) h = absurd (omega arith)
of_be_8 (a ∷ b ∷ c ∷ []) h = absurd (omega arith)
of_be_8 (a ∷ b ∷ c ∷ d ∷ []) h = absurd (omega arith)
of_be_8 (a ∷ b ∷ c ∷ d ∷ e ∷ []) h = absurd (omega arith)
of_be_8 (a ∷ b ∷ c ∷ d ∷ e ∷ f ∷ []) h = absurd (omega arith)
of_be_8 (a ∷ b ∷ c ∷ d ∷ e ∷ f ∷ g ∷ []) h = absurd (omega arith)
of_be_8 (a ∷ b ∷ c ∷ d ∷ e ∷ f ∷ g ∷ i ∷ []) h = omega arith
of_be_8 (a ∷ b ∷ c ∷ d ∷ e ∷ f ∷ g ∷ i ∷ j ∷ l) h = absurd (omega arith)

-- As many bytes as were asked for.
pub length_be : (k n : ℕ) → length (be k n) ≡ k
length_be zero n = refl
length_be (suc zero) n = refl
length_be (suc (suc k)) n = ap suc (length_be (suc k) n)

pub pow_256 : (k : ℕ) → 0 < 256 ^ k
pow_256 zero = omega arith
pow_256 (suc k) = let h = pow_256 k in let e = pow-succ' 256 k in omega arith

-- What is above the bytes of a number is not among them.
be_over : (k q m : ℕ) → be k (q * 256 ^ k + m) ≡ be k m
be_over zero q m = refl
be_over (suc zero) q m = ap (λ x. x ∷ []) (mul-add-mod_self_right q 256 m)
be_over (suc (suc k)) q m =
    let e : q * 256 ^ suc (suc k) ≡ q * 256 * 256 ^ suc k = ap (λ x. q * x) (pow-succ' 256 (suc k)) ∙ sym (mul_assoc q 256 (256 ^ suc k)) in
    let d : (q * 256 ^ suc (suc k) + m) / 256 ^ suc k ≡ q * 256 + m / 256 ^ suc k = ap (λ x. (x + m) / 256 ^ suc k) e ∙ mul-add-div_right (pow_256 (suc k)) (q * 256) m in
    let h : (q * 256 ^ suc (suc k) + m) / 256 ^ suc k % 256 ≡ m / 256 ^ suc k % 256 = ap (λ x. x % 256) d ∙ mul-add-mod_self_right q 256 (m / 256 ^ suc k) in
    let t : be (suc k) (q * 256 ^ suc (suc k) + m) ≡ be (suc k) m = ap (λ x. be (suc k) (x + m)) e ∙ be_over (suc k) (q * 256) m in
    cc

of_be_mod : (k n : ℕ) → of_be (be k n) ≡ n % 256 ^ k
of_be_mod zero n = omega arith
of_be_mod (suc zero) n = omega arith
of_be_mod (suc (suc k)) n =
    ap (λ l. n / 256 ^ suc k % 256 * 256 ^ l + of_be (be (suc k) n)) (length_be (suc k) n) ∙ ap (λ x. n / 256 ^ suc k % 256 * 256 ^ suc k + x) (of_be_mod (suc k) n)
    ∙ sym (mod-mul n {m = 256} (omega arith) (pow_256 (suc k))) ∙ ap (λ x. n % x) (sym (pow-succ' 256 (suc k)))

-- A number is read back from its bytes.
pub of_be_be : (k n : ℕ) → n < 256 ^ k → of_be (be k n) ≡ n
of_be_be k n h = of_be_mod k n ∙ mod-eq_of_lt h

pub of_be_small : (bytes : List ℕ) → ((i : ℕ) → get_or bytes i 0 < 256) → of_be bytes < 256 ^ length bytes
of_be_small [] h = omega arith
of_be_small (b ∷ bytes) h =
    let r = digits_lt {m = 256} (h 0) (of_be_small bytes (λ i. h (suc i))) in
    let e = pow-succ' 256 (length bytes) in
    omega arith

-- The number that bytes write is written as those bytes.
be_of_be_all : (bytes : List ℕ) → ((i : ℕ) → get_or bytes i 0 < 256) → be (length bytes) (of_be bytes) ≡ bytes
be_of_be_all [] h = refl
be_of_be_all (b ∷ []) h = let f : b < 256 = h 0 in ap (λ x. x ∷ []) (omega arith)
be_of_be_all (b ∷ c ∷ bytes) h =
    let s = of_be_small (c ∷ bytes) (λ i. h (suc i)) in
    let f : b < 256 = h 0 in
    let p : of_be (b ∷ c ∷ bytes) / 256 ^ length (c ∷ bytes) % 256 ≡ b = ap (λ x. x % 256) (digits_div b s) ∙ mod-eq_of_lt f in
    let t : be (length (c ∷ bytes)) (of_be (b ∷ c ∷ bytes)) ≡ c ∷ bytes = be_over (length (c ∷ bytes)) b (of_be (c ∷ bytes)) ∙ be_of_be_all (c ∷ bytes) (λ i. h (suc i)) in
    cc

pub be_of_be : (k : ℕ) (bytes : List ℕ) → length bytes ≡ k → ((i : ℕ) → get_or bytes i 0 < 256) → be k (of_be bytes) ≡ bytes
be_of_be k bytes e h = ap (λ j. be j (of_be bytes)) (sym e) ∙ be_of_be_all bytes h
