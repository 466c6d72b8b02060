-- Big Integers extended by their sign.
use Rattle.std.proofs.Common.{◌≡◌, ℕ, ◌+◌, ◌-◌, ◌%◌, ◌<◌, ◌≤◌, List, length, take, replicate, refl, ap, ◌∙◌, arith}
use Rattle.std.proofs.lemmas.List.{length-append, length-replicate}
use Rattle.ttlv.specs.Numbers.{padding}
use Rattle.ttlv.specs.Kinds.{extended, sign_byte, Legal}
use Rattle.values.proofs.Putting.{padding_eights, fronts}

pub length_extended : (bytes : List ℕ) → length (extended bytes) ≡ length bytes + padding (length bytes)
length_extended bytes = length-append (replicate (padding (length bytes)) (sign_byte bytes)) bytes ∙ (let l = length-replicate (padding (length bytes)) (sign_byte bytes) in omega arith)

-- A Big Integer as written is legal.
pub legal_extended : (bytes : List ℕ) → Legal 4 (extended bytes)
legal_extended bytes =
    let l = length_extended bytes in
    let e = padding_eights (length bytes) in
    record { long = refl; eights = λ _. ap (λ n. n % 8) l ∙ e; truth = λ q. omega arith; text = λ q. absurd (omega arith) }

-- What fits has room for the front of a Big Integer.
pub front_fits : (bytes : List ℕ) (k b room : ℕ) → k ≡ padding (length bytes) → length (extended bytes) ≤ room → room < length (take (k - 0) (replicate 8 b)) → ⊥
front_fits bytes k b room e h l =
    let n : length (take (k - 0) (replicate 8 b)) ≡ padding (length bytes) = ap length (fronts k (length bytes) b e) ∙ length-replicate (padding (length bytes)) b in
    let m = length_extended bytes in
    omega arith
