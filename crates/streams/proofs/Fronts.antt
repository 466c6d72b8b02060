-- A caller's buffer whose front is held; the front's length may be past the buffer's end.
use Rattle.std.proofs.Common.{◌≡◌, ℕ, ◌+◌, ◌-◌, ◌≤◌, min, List, length, take, drop, sym, refl, ap, ◌∙◌, arith}
use borrow.Rule.Slice.PartMut.{put_mid}
use Rattle.std.proofs.lemmas.List.{length-take, drop-drop}
use Rattle.streams.specs.Sinks.{grown, patched, buffer_store}
use Rattle.streams.specs.Memories.{overwritten}
use Rattle.streams.proofs.Rewrites.{put_mid_is, take_min, drop_min, length_overwritten, take_overwritten, drop_overwritten, overwritten_take, overwritten_drop}
use Rattle.streams.proofs.Growing.{same_store, same_memory}

front_min : (buf : List ℕ) (n m at : ℕ) → m ≡ min n (length buf) → buffer_store buf m at ≡ buffer_store buf n at
front_min buf n m at e =
    same_store _ _ (same_memory _ _ (ap (λ k. take k buf) e ∙ take_min n buf) (omega arith) (ap (λ k. drop k buf) e ∙ drop_min n buf)) refl refl

-- A put at the end of the front.
front_put : (buf buf' bytes : List ℕ) (n at : ℕ) → buf' ≡ overwritten buf n bytes → n + length bytes ≤ length buf
    → buffer_store buf' (n + length bytes) at ≡ grown (buffer_store buf n at) bytes
front_put buf buf' bytes n at e h =
    let l : length buf' ≡ length buf = ap length e ∙ length_overwritten buf bytes n h in
    same_store _ _
    (same_memory _ _
    (ap (λ l. take (n + length bytes) l) e ∙ take_overwritten buf bytes n h)
    (omega arith)
    (ap (λ l. drop (n + length bytes) l) e ∙ drop_overwritten buf bytes n h ∙ sym (drop-drop (length bytes) n buf)))
    refl refl

-- A patch within the front.
front_patch : (buf buf' bytes : List ℕ) (n p at : ℕ) → buf' ≡ overwritten buf p bytes → p + length bytes ≤ n → n ≤ length buf
    → buffer_store buf' n at ≡ patched (buffer_store buf n at) p bytes
front_patch buf buf' bytes n p at e h k =
    let l : length buf' ≡ length buf = ap length e ∙ length_overwritten buf bytes p (omega arith) in
    same_store _ _
    (same_memory _ _
    (ap (λ l. take n l) e ∙ overwritten_take buf bytes p n h k)
    (omega arith)
    (ap (λ l. drop n l) e ∙ overwritten_drop buf bytes p n h k))
    refl refl

pub buffer_put : (buf part bytes : List ℕ) (n m at : ℕ) → m ≡ min n (length buf) → part ≡ bytes → length bytes ≤ length buf - m
    → (length bytes ≤ length buf - n) × (buffer_store (put_mid m ((m + length bytes) - m) buf part) (m + length bytes) at ≡ grown (buffer_store buf n at) bytes)
buffer_put buf part bytes n m at e p h = (
  omega arith,
  front_put buf (put_mid m ((m + length bytes) - m) buf part) bytes m at (put_mid_is buf part bytes m p) (omega arith)
      ∙ ap (λ s. grown s bytes) (front_min buf n m at e),
)

pub buffer_patch : (buf part bytes : List ℕ) (n m p at : ℕ) → m ≡ min n (length buf) → part ≡ bytes → p ≤ m → length bytes ≤ m - p
    → (p + length bytes ≤ length (take n buf)) × (buffer_store (put_mid p ((p + length bytes) - p) buf part) n at ≡ patched (buffer_store buf n at) p bytes)
buffer_patch buf part bytes n m p at e q h k =
    let new = put_mid p ((p + length bytes) - p) buf part in
    let o : new ≡ overwritten buf p bytes = put_mid_is buf part bytes p q in
    let l : length new ≡ length buf = ap length o ∙ length_overwritten buf bytes p (omega arith) in (
      simp length-take (omega arith),
      sym (front_min new n m at (omega arith))
          ∙ front_patch buf new bytes m p at o (omega arith) (omega arith)
          ∙ ap (λ s. patched s p bytes) (front_min buf n m at e),
    )
