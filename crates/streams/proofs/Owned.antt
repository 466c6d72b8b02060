-- An owned buffer with a reserved room.
use Rattle.std.proofs.Common.{◌≡◌, ℕ, ◌+◌, ◌-◌, ◌≤◌, List, [], ◌++◌, length, sym, refl, ap, ◌∙◌, arith}
use Rattle.std.proofs.lemmas.List.{length-append, drop_all}
use Rattle.streams.specs.Memories.{overwritten}
use Rattle.streams.specs.Sinks.{grown, patched, owned_store}
use Rattle.streams.proofs.Growing.{same_store, same_memory}
use Rattle.streams.proofs.Rewrites.{length_overwritten}

pub owned_put : (old new bytes : List ℕ) (reserved : ℕ) → new ≡ old ++ bytes → length bytes ≤ reserved - length old
    → (length bytes ≤ reserved - length old) × (owned_store new reserved ≡ grown (owned_store old reserved) bytes)
owned_put old new bytes reserved e h =
    let l : length new ≡ length old + length bytes = ap length e ∙ length-append old bytes in
    (h, same_store _ _ (same_memory _ _ e (omega arith) (sym (drop_all {X = ℕ} (length bytes) [] (omega arith)))) refl refl)

pub owned_patch : (old new bytes : List ℕ) (reserved reserved' p : ℕ) → new ≡ overwritten old p bytes → reserved' ≡ reserved → p + length bytes ≤ length old
    → (p + length bytes ≤ length old) × (owned_store new reserved' ≡ patched (owned_store old reserved) p bytes)
owned_patch old new bytes reserved reserved' p e r h =
    let l : length new ≡ length old = ap length e ∙ length_overwritten old bytes p h in
    (h, same_store _ _ (same_memory _ _ e (omega arith) refl) refl refl)
