-- Bytes passed over, some at a time.
use Rattle.std.proofs.Common.{◌≡◌, ℕ, ◌+◌, ◌-◌, ◌<◌, ◌≤◌, List, length, take, drop, sym, refl, ap, ◌∙◌, subst, arith}
use Rattle.std.proofs.Math.Seq.{take-add}
use Rattle.std.proofs.lemmas.Grind.{fold-append}
use Rattle.std.proofs.lemmas.List.{take_at, drop_all, drop-drop, length-take-le, length-drop}
use Rattle.streams.specs.declared.refusals.ReadRefusal.TheVariants.{Ended}
use Rattle.streams.specs.Sources.{Handed}
use Rattle.text.specs.declared.utf8.Utf8.{Utf8}
use Rattle.text.specs.declared.utf8.Utf8.TheVariants.{Start}
use Rattle.text.specs.Deciding.{run, stepped}
use Rattle.reading.specs.Parts.{Passed, Short}

-- `taken` bytes of `old` have come so far, of the `n` to pass over.
pub record Passing (old new : List ℕ) (n taken : ℕ) (seen : Utf8) : Type 0 where
  pub within : taken ≤ n
  pub had : taken ≤ length old
  pub left : new ≡ drop taken old
  pub read : seen ≡ run Start (take taken old)

-- None came so far.
pub passing_none : (old : List ℕ) (n : ℕ) → Passing old old n 0 Start
passing_none old n = record { within = omega arith; had = omega arith; left = refl; read = refl }

-- Some more came.
pub passing_more : (old new new' buf buf' : List ℕ) (n taken m : ℕ) (seen seen' : Utf8) → Passing old new n taken seen → Handed new new' buf buf' m → length buf ≤ n - taken
    → seen' ≡ run seen (take (m - 0) buf') → Passing old new' n (taken + m) seen'
passing_more old new new' buf buf' n taken m seen seen' p h l e =
    let had : m ≤ length (drop taken old) = subst (λ a. m ≤ length a) p.left h.had in
    let lt : length (take m new) ≡ m = length-take-le m new h.had in
    let t : take (m - 0) buf' ≡ take m (drop taken old) = ap (λ b. take (m - 0) b) h.filled ∙ take_at (take m new) (drop m buf) (m - 0) (omega arith) ∙ ap (λ a. take m a) p.left in
    record {
      within = omega (arith, h.within, p.within);
      had = omega (arith, simp length-drop at had, p.had);
      left = h.left ∙ ap (λ a. drop m a) p.left ∙ drop-drop m taken old;
      read = e ∙ ap (run seen) t ∙ ap (λ s. run s (take m (drop taken old))) p.read ∙ sym (fold-append stepped Start (take taken old) (take m (drop taken old))) ∙ ap (run Start) (sym (take-add taken m old));
    }

-- All came.
pub passing_all : (old new : List ℕ) (n taken : ℕ) (seen : Utf8) → Passing old new n taken seen → n ≤ taken → Passed old new n × (seen ≡ run Start (take n old))
passing_all old new n taken seen p h =
    let e : taken ≡ n = omega (arith, p.within) in
    (record { enough = omega (arith, p.had); left = p.left ∙ ap (λ k. drop k old) e }, p.read ∙ ap (λ k. run Start (take k old)) e)

-- The source ended.
pub passing_ended : (old new new' buf buf' : List ℕ) (n taken m : ℕ) (seen : Utf8) → Passing old new n taken seen → Handed new new' buf buf' m → 0 < length buf → taken < n → m ≡ 0
    → Short old new' n (Ended taken)
passing_ended old new new' buf buf' n taken m seen p h b lt z =
    let none : length new ≡ 0 = grind (arith, h.some b) in
    let o : length old ≡ taken = omega (arith, simp length-drop at (ap length p.left), p.had) in
    record { short = omega arith; cause = ap Ended (sym o); left = h.left ∙ drop_all m new (omega arith) }
