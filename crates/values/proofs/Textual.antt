-- Text as the library has it, and as the format has it.
use Rattle.std.proofs.Common.{◌≡◌, ℕ, ◌<◌, ◌≤◌, true, ◌⊎◌, List, [], ◌∷◌, ◌++◌, IsUtf8, sym, refl, ap, ◌∙◌, subst, inl, inr, arith}
use lib.Utf8.{scalar, scalars, encode, encodes, scalar_cases, low_scalar}
use Rattle.std.proofs.lemmas.Bool.{and_parts, and_from}
use Rattle.std.proofs.lemmas.Bool.Decides.{nat_tests}
use Rattle.ttlv.specs.Utf8.{Scalar, written, Text, no_more, one_more}

written_encode : (c : ℕ) → written c ≡ encode c
unfolding encode
written_encode c = refl

as_scalar : (c : ℕ) → (c < 55296) ⊎ ((57344 ≤ c) × (c < 1114112)) → Scalar c
as_scalar c (inl h) = inl h
as_scalar c (inr h) = inr (h.0, omega (arith, h.1))

-- The library's own text is text.
pub text_from : (cs bytes : List ℕ) → scalars cs ≡ true → encodes cs ≡ bytes → Text bytes
text_from [] bytes s e = subst Text e no_more
text_from (c ∷ cs) bytes s e =
    let p = and_parts (scalar c) (scalars cs) s in
    one_more c (encodes cs) bytes (as_scalar c (scalar_cases c p.0)) (ap (λ l. l ++ encodes cs) (written_encode c) ∙ e) (text_from cs (encodes cs) p.1 refl)

is_scalar : (c : ℕ) → Scalar c → scalar c ≡ true
is_scalar c (inl h) = low_scalar c h
is_scalar c (inr h) = let l = h.0 in let u = h.1 in grind (arith, nat_tests)

-- And text is the library's own.
pub text_to : {bytes : List ℕ} → Text bytes → IsUtf8 bytes
text_to no_more = ([], (refl, refl))
text_to (one_more c rest bytes s e t) =
    let u = text_to t in
    (c ∷ u.0, (and_from (scalar c) (scalars u.0) (is_scalar c s) u.1.0, ap (λ l. encode c ++ l) u.1.1 ∙ ap (λ l. l ++ rest) (sym (written_encode c)) ∙ e))
