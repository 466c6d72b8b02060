-- Sinks that grow and are patched.
use Rattle.std.proofs.Common.{◌≡◌, ℕ, ◌+◌, ◌-◌, ◌*◌, ◌<◌, ◌≤◌, List, [], ◌∷◌, ◌++◌, length, get_or, take, drop, sym, refl, ap, ◌∙◌, mul-zero, mul-add, arith}
use Rattle.std.proofs.lemmas.Grind.{flat_map-append}
use Rattle.std.proofs.lemmas.List.{take_all, take_more, append_assoc, append-nil, length-append, length-take-le, length-map, drop-drop}
use Rattle.streams.specs.declared.refusals.PutRefusal.{PutRefusal}
use Rattle.streams.specs.Refusals.{put_number}
use Rattle.streams.specs.Memories.{Memory, Layer, Spelling, spelt, spelt_byte, appended, mended, appended_below, mended_below}
use Rattle.streams.specs.Sinks.{Store, grown, patched}
use Rattle.streams.proofs.Rewrites.{overwritten_none, overwritten_twice}

-- Two memories, layers or stores are equal where their parts are.
pub same_memory : (a b : Memory) → a.held ≡ b.held → a.room ≡ b.room → a.beyond ≡ b.beyond → a ≡ b
same_memory a b p q r = λ i. record { held = p i; room = q i; beyond = r i }

pub same_layer : (a b : Layer) → a.memory ≡ b.memory → a.spelling ≡ b.spelling → a ≡ b
same_layer a b p q = λ i. record { memory = p i; spelling = q i }

pub same_store : (a b : Store) → a.memory ≡ b.memory → a.under ≡ b.under → a.place ≡ b.place → a ≡ b
same_store a b p q r = λ i. record { memory = p i; under = q i; place = r i }

pub same_cons : {X : Type 0} (x y : X) (xs ys : List X) → x ≡ y → xs ≡ ys → ◌≡◌ {A = List X} (x ∷ xs) (y ∷ ys)
same_cons x y xs ys p q = λ i. p i ∷ q i

-- What is spelt below.
pub spelt_append : (s : Spelling) (xs ys : List ℕ) → spelt s (xs ++ ys) ≡ spelt s xs ++ spelt s ys
spelt_append s xs ys = flat_map-append (spelt_byte s) xs ys

pub length_spelt : (s : Spelling) (xs : List ℕ) → length (spelt s xs) ≡ length s * length xs
length_spelt s [] = sym (mul-zero (length s))
length_spelt s (x ∷ xs) =
    let a : length (spelt s (x ∷ xs)) ≡ length (spelt_byte s x) + length (spelt s xs) = length-append (spelt_byte s x) (spelt s xs) in
    let b : length (spelt_byte s x) ≡ length s = length-map s (λ (f : ℕ → ℕ). f x) in
    let e = length_spelt s xs in
    let m = mul-add (length s) 1 (length xs) in
    omega arith

-- Appending.
pub appended_twice : (m : Memory) (a b : List ℕ) → appended (appended m a) b ≡ appended m (a ++ b)
appended_twice m a b =
    let l = length-append a b in
    same_memory _ _ (append_assoc m.held a b) (omega arith) (drop-drop (length b) (length a) m.beyond ∙ ap (λ n. drop n m.beyond) (sym l))

pub appended_none : (m : Memory) → m ≡ appended m []
appended_none m = same_memory _ _ (sym (append-nil m.held)) (omega arith) refl

pub appended_below_twice : (ls : List Layer) (a b : List ℕ) → appended_below (appended_below ls a) b ≡ appended_below ls (a ++ b)
appended_below_twice [] a b = refl
appended_below_twice (l ∷ ls) a b =
    let s = l.spelling in
    let e : spelt s a ++ spelt s b ≡ spelt s (a ++ b) = sym (spelt_append s a b) in
    same_cons _ _ _ _
    (same_layer _ _ (appended_twice l.memory (spelt s a) (spelt s b) ∙ ap (appended l.memory) e) refl)
    (appended_below_twice ls (spelt s a) (spelt s b) ∙ ap (appended_below ls) e)

pub appended_below_none : (ls : List Layer) → ls ≡ appended_below ls []
appended_below_none [] = refl
appended_below_none (l ∷ ls) = same_cons _ _ _ _ (same_layer _ _ (appended_none l.memory) refl) (appended_below_none ls)

pub grown_twice : (s : Store) (a b : List ℕ) → grown (grown s a) b ≡ grown s (a ++ b)
grown_twice s a b = same_store _ _ (appended_twice s.memory a b) (appended_below_twice s.under a b) refl

pub grown_none : (s : Store) → s ≡ grown s []
grown_none s = same_store _ _ (appended_none s.memory) (appended_below_none s.under) refl

-- Patching.
pub mended_twice : (m : Memory) (p : ℕ) (a b : List ℕ) → mended (mended m p a) (p + length a) b ≡ mended m p (a ++ b)
mended_twice m p a b = same_memory _ _ (overwritten_twice m.held a b p) refl refl

pub mended_none : (m : Memory) (p : ℕ) → m ≡ mended m p []
mended_none m p = same_memory _ _ (overwritten_none m.held p) refl refl

pub mended_below_twice : (ls : List Layer) (p : ℕ) (a b : List ℕ) → mended_below (mended_below ls p a) (p + length a) b ≡ mended_below ls p (a ++ b)
mended_below_twice [] p a b = refl
mended_below_twice (l ∷ ls) p a b =
    let s = l.spelling in
    let w = length s in
    let e : spelt s a ++ spelt s b ≡ spelt s (a ++ b) = sym (spelt_append s a b) in
    let at : w * (p + length a) ≡ w * p + length (spelt s a) = mul-add w p (length a) ∙ ap (λ n. w * p + n) (sym (length_spelt s a)) in
    same_cons _ _ _ _
    (same_layer _ _
    (ap (λ q. mended (mended l.memory (w * p) (spelt s a)) q (spelt s b)) at
    ∙ mended_twice l.memory (w * p) (spelt s a) (spelt s b) ∙ ap (mended l.memory (w * p)) e)
    refl)
    (ap (λ q. mended_below (mended_below ls (w * p) (spelt s a)) q (spelt s b)) at
    ∙ mended_below_twice ls (w * p) (spelt s a) (spelt s b) ∙ ap (mended_below ls (w * p)) e)

pub mended_below_none : (ls : List Layer) (p : ℕ) → ls ≡ mended_below ls p []
mended_below_none [] p = refl
mended_below_none (l ∷ ls) p = same_cons _ _ _ _ (same_layer _ _ (mended_none l.memory (length l.spelling * p)) refl) (mended_below_none ls (length l.spelling * p))

pub patched_twice : (s : Store) (p : ℕ) (a b : List ℕ) → patched (patched s p a) (p + length a) b ≡ patched s p (a ++ b)
patched_twice s p a b = same_store _ _ (mended_twice s.memory p a b) (mended_below_twice s.under p a b) refl

pub patched_none : (s : Store) (p : ℕ) → s ≡ patched s p []
patched_none s p = same_store _ _ (mended_none s.memory p) (mended_below_none s.under p) refl

-- A text put byte by byte: one byte more, the end, and the first byte without room.
pub grown_more : (s t u : Store) (text : List ℕ) (i : ℕ) → (t ≡ grown s (take i text)) × (i ≤ s.memory.room) → i < length text
    → (1 ≤ t.memory.room) × (u ≡ grown t (get_or text i 0 ∷ []))
    → (u ≡ grown s (take (i + 1) text)) × (i + 1 ≤ s.memory.room)
grown_more s t u text i e h p =
    let m : take (i + 1) text ≡ take i text ++ get_or text i 0 ∷ [] = take_more text i 0 h in
    let l : length (take i text) ≡ i = length-take-le i text (omega arith) in
    let r : t.memory.room ≡ s.memory.room - length (take i text) = ap (λ x. x.memory.room) e.0 in (
      p.1 ∙ ap (λ x. grown x (get_or text i 0 ∷ [])) e.0 ∙ grown_twice s (take i text) (get_or text i 0 ∷ []) ∙ ap (grown s) (sym m),
      omega (arith, p.0),
    )

pub grown_all : (s t : Store) (text : List ℕ) (i : ℕ) → (t ≡ grown s (take i text)) × (i ≤ s.memory.room) → length text ≤ i
    → (length text ≤ s.memory.room) × (t ≡ grown s text)
grown_all s t text i e h = (omega (arith, e.1), e.0 ∙ ap (grown s) (take_all i text h))

pub grown_cut : (s t u : Store) (text : List ℕ) (i : ℕ) (e : PutRefusal) → (t ≡ grown s (take i text)) × (i ≤ s.memory.room) → i < length text
    → (t.memory.room < 1) × (u ≡ t) × (put_number e ≡ 8)
    → (s.memory.room < length text) × (u ≡ grown s (take s.memory.room text)) × (put_number e ≡ 8)
grown_cut s t u text i n e h p =
    let l : length (take i text) ≡ i = length-take-le i text (omega arith) in
    let r : t.memory.room ≡ s.memory.room - length (take i text) = ap (λ x. x.memory.room) e.0 in
    let z : i ≡ s.memory.room = omega (arith, e.1, p.0) in
    (omega arith, p.1 ∙ e.0 ∙ ap (λ n. grown s (take n text)) z, p.2)
