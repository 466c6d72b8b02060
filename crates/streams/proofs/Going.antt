-- Reads that repeat.
use Rattle.std.proofs.Common.{◌≡◌, ℕ, ◌+◌, ◌-◌, ◌<◌, ◌≤◌, min, List, [], ◌∷◌, ◌++◌, length, get_or, take, drop, set, sym, refl, ap, ◌∙◌, subst, add_assoc, arith}
use borrow.Rule.Slice.PartMut.{put_mid}
use Rattle.std.proofs.Math.Seq.{take-add}
use Rattle.std.proofs.lemmas.List.{drop-drop, drop_all, drop_at, drop_more, take_at, take_rest, take_all, take_more, append_assoc, append-nil, set_at, length-take-le, length-drop}
use Rattle.streams.specs.declared.refusals.ReadRefusal.TheVariants.{Ended}
use Rattle.streams.specs.Sources.{Handed, Served, Cut}

-- A read that goes on: `done` bytes of `old` have come so far.
pub record Going (old new buf buf' : List ℕ) (done : ℕ) : Type 0 where
  pub within : done ≤ length buf
  pub had : done ≤ length old
  pub filled : buf' ≡ take done old ++ drop done buf
  pub left : new ≡ drop done old

-- Nothing came, since nothing is ahead.
pub handed_none : (old buf : List ℕ) → length old ≡ 0 → Handed old old buf buf 0
handed_none old buf h = record { within = omega arith; had = omega arith; some = λ _ p. omega arith; filled = refl; left = refl }

pub going_none : (old buf : List ℕ) → Going old old buf buf 0
going_none old buf = record { within = omega arith; had = omega arith; filled = refl; left = refl }

-- One read more, into the rest of the buffer.
pub going_more : (old new new' buf buf' part : List ℕ) (done m : ℕ)
    → Going old new buf buf' done → Handed new new' (take (length buf' - done) (drop done buf')) part m
    → Going old new' buf (put_mid done (length buf' - done) buf' part) (done + m)
going_more old new new' buf buf' part done m g h =
    let t : length (take done old) ≡ done = length-take-le done old g.had in
    let r : take (length buf' - done) (drop done buf') ≡ drop done buf' = take_rest buf' done in
    let td : take done buf' ≡ take done old = ap (λ l. take done l) g.filled ∙ take_at (take done old) (drop done buf) done t in
    let dd : drop done buf' ≡ drop done buf = ap (λ l. drop done l) g.filled ∙ drop_at (take done old) (drop done buf) done t in
    let po : drop (length buf' - done) (drop done buf') ≡ [] = drop_all (length buf' - done) (drop done buf') (simp length-drop (omega arith)) in
    let pa : part ≡ take m (drop done old) ++ drop m (drop done buf) = h.filled ∙ rw (r, dd, g.left) in
    let ta = take-add done m old in
    let db = drop-drop m done buf in
    let nb = drop-drop m done old in
    let hn : m ≤ length (drop done old) = subst (λ l. m ≤ length l) g.left h.had in
    let hb : m ≤ length (drop done buf) = subst (λ l. m ≤ length l) (r ∙ dd) h.within in
    record {
      within = omega (arith, simp length-drop at hb, g.within);
      had = omega (arith, simp length-drop at hn, g.had);
      filled = simp (td, po, append-nil, pa, ta, ← db, append_assoc);
      left = h.left ∙ ap (λ l. drop m l) g.left ∙ nb;
    }

-- The buffer is full.
pub going_all : (old new buf buf' : List ℕ) (done : ℕ) → Going old new buf buf' done → length buf ≤ done → Served old new buf buf'
going_all old new buf buf' done g h =
    let e : done ≡ length buf = omega (arith, g.within) in
    let d : drop done buf ≡ [] = drop_all done buf h in
    record { enough = omega (arith, g.had); filled = g.filled ∙ rw (d, append-nil) (ap (λ n. take n old) e); left = g.left ∙ ap (λ n. drop n old) e }

-- The source ended.
pub going_ended : (old new new' buf buf' part : List ℕ) (done m : ℕ)
    → Going old new buf buf' done → Handed new new' (take (length buf' - done) (drop done buf')) part m → length buf' ≡ length buf → done < length buf → m ≡ 0
    → Cut old new' buf (put_mid done (length buf' - done) buf' part) (Ended done)
going_ended old new new' buf buf' part done m g h l lt z =
    let k = going_more old new new' buf buf' part done m g h in
    let r : take (length buf' - done) (drop done buf') ≡ drop done buf' = take_rest buf' done in
    let hb : 0 < length (take (length buf' - done) (drop done buf')) = simp (r, length-drop) (omega arith) in
    let n : length new ≡ 0 = grind (arith, h.some hb) in
    let o : length old ≡ done = omega (arith, simp length-drop at (ap length g.left), g.had) in
    let e : done + m ≡ length old = omega arith in
    record {
      number = refl;
      short = omega arith;
      taken = omega arith;
      filled = k.filled ∙ simp (e, take_all (length old) old (omega arith));
      left = k.left ∙ drop_all (done + m) old (omega arith);
    }

-- One byte more came, into its place.
pub going_push : (old new new' buf buf' : List ℕ) (done b : ℕ) → Going old new buf buf' done → new ≡ b ∷ new' → done < length buf → Going old new' buf (set buf' done b) (done + 1)
going_push old new new' buf buf' done b g e h =
    let d : drop done old ≡ b ∷ new' = sym g.left ∙ e in
    let n : done < length old = omega (arith, ap length d, simp length-drop at (ap length d)) in
    let t : length (take done old) ≡ done = length-take-le done old g.had in
    let m : drop done old ≡ get_or old done 0 ∷ drop (done + 1) old = drop_more old done 0 n in
    let f : drop done buf ≡ get_or buf done 0 ∷ drop (done + 1) buf = drop_more buf done 0 h in
    let x : b ≡ get_or old done 0 = cc in
    let y : new' ≡ drop (done + 1) old = cc in
    let k : take (done + 1) old ≡ take done old ++ get_or old done 0 ∷ [] = take_more old done 0 n in
    let s : set (take done old ++ get_or buf done 0 ∷ drop (done + 1) buf) done b ≡ take done old ++ b ∷ drop (done + 1) buf
    = set_at (take done old) (get_or buf done 0) (drop (done + 1) buf) b done t in
    record {
      within = omega arith;
      had = omega arith;
      filled = ap (λ l. set l done b) (g.filled ∙ ap (λ l. take done old ++ l) f) ∙ s ∙ rw (k, append_assoc, x);
      left = y;
    }

-- A read that stops where nothing is ahead any more, or where the buffer is full.
pub going_over : (old new new' buf buf' : List ℕ) (done : ℕ) → Going old new buf buf' done → new ≡ [] → new' ≡ [] → Handed old new' buf buf' done
going_over old new new' buf buf' done g e f =
    let l : length (drop done old) ≡ 0 = ap length (sym g.left ∙ e) in
    let o : length old ≤ done = omega (arith, simp length-drop at l) in
    record { within = g.within; had = g.had; some = λ p q. omega arith; filled = g.filled; left = f ∙ sym e ∙ g.left }

pub going_full : (old new buf buf' : List ℕ) (done : ℕ) → Going old new buf buf' done → length buf ≤ done → Handed old new buf buf' done
going_full old new buf buf' done g h =
    record { within = g.within; had = g.had; some = λ p q. omega arith; filled = g.filled; left = g.left }

-- The same, with how many came: all that are ahead, or as many as fit.
pub most_over : (old new new' buf buf' : List ℕ) (done : ℕ) → Going old new buf buf' done → new ≡ [] → new' ≡ [] → done ≡ min (length buf) (length old)
most_over old new new' buf buf' done g e f =
    let l : length (drop done old) ≡ 0 = ap length (sym g.left ∙ e) in
    omega (arith, simp length-drop at l, g.within, g.had)

pub most_full : (old new buf buf' : List ℕ) (done : ℕ) → Going old new buf buf' done → length buf ≤ done → done ≡ min (length buf) (length old)
most_full old new buf buf' done g h = omega (arith, g.within, g.had)

-- One byte more, of those held from a place on.
pub going_look : (held buf buf' : List ℕ) (from at done b : ℕ) → Going (drop from held) (drop at held) buf buf' done → at < length held → b ≡ get_or held at 0 → done < length buf
    → Going (drop from held) (drop (at + 1) held) buf (set buf' done b) (done + 1)
going_look held buf buf' from at done b g l e h =
    going_push (drop from held) (drop at held) (drop (at + 1) held) buf buf' done b g (drop_more held at 0 l ∙ ap (λ x. x ∷ drop (at + 1) held) (sym e)) h

pub going_look_from : (held buf buf' : List ℕ) (from i b : ℕ) → Going (drop from held) (drop (from + i) held) buf buf' i → from + i < length held
    → b ≡ get_or held (from + i) 0 → i < length buf → Going (drop from held) (drop (from + (i + 1)) held) buf (set buf' i b) (i + 1)
going_look_from held buf buf' from i b g l e h =
    rw (← add_assoc)
    (going_push (drop from held) (drop (from + i) held) (drop (from + i + 1) held) buf buf' i b g
    (drop_more held (from + i) 0 l ∙ ap (λ x. x ∷ drop (from + i + 1) held) (sym e)) h)
