-- Lines, one after another.
use Rattle.std.proofs.Common.{◌≡◌, ℕ, zero, suc, ◌+◌, ◌<◌, ◌≤◌, Bool, true, false, cond, eqb, List, [], ◌∷◌, ◌++◌, length, get_or, take, drop, sym, refl, ap, ◌∙◌, add-one, arith}
use Rattle.std.specs.List.{flat_map}
use Rattle.std.proofs.lemmas.List.{take_rest, take_more, drop_more, drop_all, take_all, append_assoc, append-nil}
use Rattle.std.proofs.lemmas.Bool.{eq-eqb, ne_eqb, eqb-true, eqb-false, cond-true, cond-false}
use Rattle.ttlvdiag.specs.Lines.{led_by, lines, first_line, after_line, ended, closed, Unbroken, CutsAtLf}

-- The first LF of a text ends its first line, and the rest follows it.
pub first_line_at : (text : List ℕ) (i : ℕ) → i < length text → get_or text i 0 ≡ 10 → ((k : ℕ) → k < i → get_or text k 0 ≡ 10 → ⊥) → take i text ≡ first_line text
first_line_at [] i h e ne = absurd (omega arith)
first_line_at (c ∷ text) zero h e ne = sym (cond-true _ _ _ (eq-eqb c 10 e))
first_line_at (c ∷ text) (suc i) h e ne =
    ap (λ l. c ∷ l) (first_line_at text i (omega arith) e (λ k l. ne (suc k) (omega arith))) ∙ sym (cond-false _ _ _ (ne_eqb c 10 (ne 0 (omega arith))))

pub after_line_at : (text : List ℕ) (i : ℕ) → i < length text → get_or text i 0 ≡ 10 → ((k : ℕ) → k < i → get_or text k 0 ≡ 10 → ⊥) → drop (i + 1) text ≡ after_line text
after_line_at [] i h e ne = absurd (omega arith)
after_line_at (c ∷ text) zero h e ne = sym (cond-true _ _ _ (eq-eqb c 10 e))
after_line_at (c ∷ text) (suc i) h e ne =
    ap (λ n. drop n (c ∷ text)) (add-one (suc i)) ∙ ap (λ n. drop n text) (sym (add-one i))
    ∙ after_line_at text i (omega arith) e (λ k l. ne (suc k) (omega arith)) ∙ sym (cond-false _ _ _ (ne_eqb c 10 (ne 0 (omega arith))))

-- A text without LF is its first line, and nothing follows it.
pub first_line_all : (text : List ℕ) → ((k : ℕ) → k < length text → get_or text k 0 ≡ 10 → ⊥) → first_line text ≡ text
first_line_all [] ne = refl
first_line_all (c ∷ text) ne = cond-false _ _ _ (ne_eqb c 10 (ne 0 (omega arith))) ∙ ap (λ l. c ∷ l) (first_line_all text (λ k l. ne (suc k) (omega arith)))

pub after_line_none : (text : List ℕ) → ((k : ℕ) → k < length text → get_or text k 0 ≡ 10 → ⊥) → after_line text ≡ []
after_line_none [] ne = refl
after_line_none (c ∷ text) ne = cond-false _ _ _ (ne_eqb c 10 (ne 0 (omega arith))) ∙ after_line_none text (λ k l. ne (suc k) (omega arith))

-- What cutting a text at its first LF needs.
pub ruleset cuts = (first_line_at, after_line_at, first_line_all, after_line_none, take_rest)

-- The first line is the characters passed so far, then the first line of what is left.
abbrev pub Passed : List ℕ → ℕ → Type 0
Passed text i = (first_line text ≡ take i text ++ first_line (drop i text)) × (after_line text ≡ after_line (drop i text))

pub passed_more : (text : List ℕ) (i : ℕ) → i < length text → (get_or text i 0 ≡ 10 → ⊥) → Passed text i → Passed text (i + 1)
passed_more text i h ne p =
    let c = get_or text i 0 in
    let d : drop i text ≡ c ∷ drop (i + 1) text = drop_more text i 0 h in
    let f : first_line (drop i text) ≡ c ∷ first_line (drop (i + 1) text) = ap first_line d ∙ cond-false _ _ _ (ne_eqb c 10 ne) in
    let a : after_line (drop i text) ≡ after_line (drop (i + 1) text) = ap after_line d ∙ cond-false _ _ _ (ne_eqb c 10 ne) in
    let t : take (i + 1) text ≡ take i text ++ c ∷ [] = take_more text i 0 h in (
      p.0 ∙ ap (λ l. take i text ++ l) f ∙ sym (append_assoc (take i text) (c ∷ []) (first_line (drop (i + 1) text))) ∙ ap (λ l. l ++ first_line (drop (i + 1) text)) (sym t),
      p.1 ∙ a,
    )

pub passed_line : (text : List ℕ) (i : ℕ) → i < length text → get_or text i 0 ≡ 10 → Passed text i → (first_line text ≡ take i text) × (after_line text ≡ drop (i + 1) text)
passed_line text i h e p =
    let c = get_or text i 0 in
    let d : drop i text ≡ c ∷ drop (i + 1) text = drop_more text i 0 h in
    let f : first_line (drop i text) ≡ [] = ap first_line d ∙ cond-true _ _ _ (eq-eqb c 10 e) in
    let a : after_line (drop i text) ≡ drop (i + 1) text = ap after_line d ∙ cond-true _ _ _ (eq-eqb c 10 e) in
    (p.0 ∙ ap (λ l. take i text ++ l) f ∙ append-nil (take i text), p.1 ∙ a)

pub passed_all : (text : List ℕ) (i : ℕ) → length text ≤ i → Passed text i → (first_line text ≡ text) × (after_line text ≡ [])
passed_all text i h p =
    let d : drop i text ≡ [] = drop_all i text h in
    (p.0 ∙ ap (λ l. take i text ++ first_line l) d ∙ append-nil (take i text) ∙ take_all i text h, p.1 ∙ ap after_line d)

-- The lines of a text that is not empty: its first line, and those of what follows.
split_at : (b : Bool) (c : ℕ) (text : List ℕ) → (0 < length text → lines text ≡ first_line text ∷ lines (after_line text))
    → cond b ([] ∷ lines text) (led_by c (lines text)) ≡ cond b [] (c ∷ first_line text) ∷ lines (cond b text (after_line text))
split_at true c text r = refl
split_at false c [] r = refl
split_at false c (d ∷ text) r = ap (led_by c) (r (omega arith))

pub lines_split : (text : List ℕ) → 0 < length text → lines text ≡ first_line text ∷ lines (after_line text)
lines_split [] h = absurd (omega arith)
lines_split (c ∷ text) h = split_at (eqb c 10) c text (lines_split text)

-- What follows the first line is shorter.
shorter_at : (b : Bool) (text : List ℕ) → length (after_line text) ≤ length text → length (cond b text (after_line text)) ≤ length text
shorter_at true text h = omega arith
shorter_at false text h = h

after_shorter : (text : List ℕ) → length (after_line text) ≤ length text
after_shorter [] = omega arith
after_shorter (c ∷ text) = let h = shorter_at (eqb c 10) text (after_shorter text) in omega arith

pub after_falls : (text : List ℕ) → 0 < length text → length (after_line text) < length text
after_falls [] h = absurd (omega arith)
after_falls (c ∷ text) h = let k = shorter_at (eqb c 10) text (after_shorter text) in omega arith

-- The law: no line holds an LF, and the lines are the text.
led_unbroken : (c : ℕ) (ls : List (List ℕ)) → (c ≡ 10 → ⊥) → Unbroken ls → Unbroken (led_by c ls)
led_unbroken c [] ne u = (one, tt)
  where
    one : (k : ℕ) → k < length (c ∷ []) → get_or (c ∷ []) k 0 ≡ 10 → ⊥
    one zero h e = ne e
    one (suc k) h e = absurd (omega arith)
led_unbroken c (line ∷ more) ne u = (one, u.1)
  where
    one : (k : ℕ) → k < length (c ∷ line) → get_or (c ∷ line) k 0 ≡ 10 → ⊥
    one zero h e = ne e
    one (suc k) h e = u.0 k (omega arith) e

unbroken_at : (b : Bool) (c : ℕ) (text : List ℕ) → eqb c 10 ≡ b → Unbroken (lines text) → Unbroken (cond b ([] ∷ lines text) (led_by c (lines text)))
unbroken_at true c text e u = (λ k h. absurd (omega arith), u)
unbroken_at false c text e u = led_unbroken c (lines text) (eqb-false c 10 e) u

all_unbroken : (text : List ℕ) → Unbroken (lines text)
all_unbroken [] = tt
all_unbroken (c ∷ text) = unbroken_at (eqb c 10) c text refl (all_unbroken text)

led_joined : (c : ℕ) (line : List ℕ) (more : List (List ℕ)) → flat_map ended (led_by c (line ∷ more)) ≡ c ∷ flat_map ended (line ∷ more)
led_joined c line more = refl

whole_at : (b : Bool) (c : ℕ) (text : List ℕ) → eqb c 10 ≡ b → flat_map ended (lines text) ≡ closed text
    → flat_map ended (cond b ([] ∷ lines text) (led_by c (lines text))) ≡ closed (c ∷ text)
whole_at true c [] e h = ap (λ n. n ∷ []) (sym (eqb-true c 10 e)) ∙ sym (cond-true _ _ _ e)
whole_at true c (d ∷ text) e h = ap (λ l. 10 ∷ l) h ∙ ap (λ n. n ∷ closed (d ∷ text)) (sym (eqb-true c 10 e))
whole_at false c [] e h = sym (cond-false _ _ _ e)
whole_at false c (d ∷ text) e h =
    let s = lines_split (d ∷ text) (omega arith) in
    ap (λ ls. flat_map ended (led_by c ls)) s ∙ led_joined c (first_line (d ∷ text)) (lines (after_line (d ∷ text))) ∙ ap (λ ls. c ∷ flat_map ended ls) (sym s) ∙ ap (λ l. c ∷ l) h

all_whole : (text : List ℕ) → flat_map ended (lines text) ≡ closed text
all_whole [] = refl
all_whole (c ∷ text) = whole_at (eqb c 10) c text refl (all_whole text)

pub cuts_at_lf : CutsAtLf
cuts_at_lf text = record { unbroken = all_unbroken text; whole = all_whole text }
