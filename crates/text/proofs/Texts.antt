-- The decision on text is right: the automaton accepts exactly the rows of characters.
use Rattle.std.proofs.Common.{◌≡◌, ℕ, ◌+◌, ◌-◌, ◌*◌, ◌/◌, ◌%◌, ◌<◌, ◌≤◌, Bool, true, false, cond, eqb, ltb, leb, ◌⊎◌, List, [], ◌∷◌, ◌++◌, length, Decides, sym, refl, ap, ◌∙◌, subst, inl, inr, arith}
use Rattle.std.proofs.lemmas.Bool.{lt-ltb, le-ltb, le-leb, lt-leb, ltb-true, ltb-false, leb-true, eqb-true, eqb-false, cond-true, cond-false, cases_lt}
use Rattle.std.proofs.lemmas.Bool.Decides.{nat_tests}
use Rattle.ttlv.specs.Utf8.{Scalar, more, written, Text, no_more, one_more}
use Rattle.text.specs.declared.utf8.Utf8.{Utf8}
use Rattle.text.specs.declared.utf8.Utf8.TheVariants.{Start, Second, Tail1, Tail2, Bad}
use Rattle.text.specs.Deciding.{within, second, after_second_byte, stepped, run, whole}

-- The bytes of a character, by the range of its code point.
pub written_1 : (c : ℕ) → c < 0x80 → written c ≡ c ∷ []
written_1 c h = cond-true _ _ _ (lt-ltb c 0x80 h)

pub written_2 : (c : ℕ) → 0x80 ≤ c → c < 0x800 → written c ≡ (0xC0 + c / 64) ∷ more c ∷ []
written_2 c l h = cond-false _ _ _ (le-ltb c 0x80 l) ∙ cond-true _ _ _ (lt-ltb c 0x800 h)

pub written_3 : (c : ℕ) → 0x800 ≤ c → c < 0x10000 → written c ≡ (0xE0 + c / 4096) ∷ more (c / 64) ∷ more c ∷ []
written_3 c l h = cond-false _ _ _ (le-ltb c 0x80 (omega arith)) ∙ cond-false _ _ _ (le-ltb c 0x800 l) ∙ cond-true _ _ _ (lt-ltb c 0x10000 h)

pub written_4 : (c : ℕ) → 0x10000 ≤ c → written c ≡ (0xF0 + c / 262144) ∷ more (c / 4096) ∷ more (c / 64) ∷ more c ∷ []
written_4 c l = cond-false _ _ _ (le-ltb c 0x80 (omega arith)) ∙ cond-false _ _ _ (le-ltb c 0x800 (omega arith)) ∙ cond-false _ _ _ (le-ltb c 0x10000 l)

abbrev pub In : ℕ → ℕ → ℕ → Type 0
In low high b = (low ≤ b) × (b ≤ high)

tested : (low high b : ℕ) → within low high b ≡ true → In low high b
tested low high b e = grind (arith, nat_tests)

passes : (low high b : ℕ) → In low high b → within low high b ≡ true
passes low high b h = grind (arith, nat_tests)

-- What `second` says, as ranges.
pub record Seconds (a b : ℕ) : Type 0 where
  pub any : In 0x80 0xBF b
  pub E0 : a ≡ 0xE0 → 0xA0 ≤ b
  pub ED : a ≡ 0xED → b ≤ 0x9F
  pub F0 : a ≡ 0xF0 → 0x90 ≤ b
  pub F4 : a ≡ 0xF4 → b ≤ 0x8F

seconds_at : (a b : ℕ) (w x y z : Bool) → eqb a 0xE0 ≡ w → eqb a 0xED ≡ x → eqb a 0xF0 ≡ y → eqb a 0xF4 ≡ z
    → cond w (within 0xA0 0xBF b) (cond x (within 0x80 0x9F b) (cond y (within 0x90 0xBF b) (cond z (within 0x80 0x8F b) (within 0x80 0xBF b)))) ≡ true → Seconds a b
seconds_at a b true x y z e f g h t =
    let i = eqb-true a 0xE0 e in let j = tested 0xA0 0xBF b t in
    record { any = (omega arith, omega arith); E0 = λ _. omega arith; ED = λ q. omega arith; F0 = λ q. omega arith; F4 = λ q. omega arith }
seconds_at a b false true y z e f g h t =
    let i = eqb-true a 0xED f in let j = tested 0x80 0x9F b t in
    record { any = (omega arith, omega arith); E0 = λ q. omega arith; ED = λ q. omega arith; F0 = λ q. omega arith; F4 = λ q. omega arith }
seconds_at a b false false true z e f g h t =
    let i = eqb-true a 0xF0 g in let j = tested 0x90 0xBF b t in
    record { any = (omega arith, omega arith); E0 = λ q. omega arith; ED = λ q. omega arith; F0 = λ q. omega arith; F4 = λ q. omega arith }
seconds_at a b false false false true e f g h t =
    let i = eqb-true a 0xF4 h in let j = tested 0x80 0x8F b t in
    record { any = (omega arith, omega arith); E0 = λ q. omega arith; ED = λ q. omega arith; F0 = λ q. omega arith; F4 = λ q. omega arith }
seconds_at a b false false false false e f g h t =
    let j = tested 0x80 0xBF b t in
    let i0 = eqb-false a 0xE0 e in let i1 = eqb-false a 0xED f in let i2 = eqb-false a 0xF0 g in let i3 = eqb-false a 0xF4 h in
    record { any = j; E0 = λ q. absurd (i0 q); ED = λ q. absurd (i1 q); F0 = λ q. absurd (i2 q); F4 = λ q. absurd (i3 q) }

pub seconds : (a b : ℕ) → second a b ≡ true → Seconds a b
seconds a b t = seconds_at a b (eqb a 0xE0) (eqb a 0xED) (eqb a 0xF0) (eqb a 0xF4) refl refl refl refl t

second_at : (a b : ℕ) (w x y z : Bool) → eqb a 0xE0 ≡ w → eqb a 0xED ≡ x → eqb a 0xF0 ≡ y → eqb a 0xF4 ≡ z → Seconds a b
    → cond w (within 0xA0 0xBF b) (cond x (within 0x80 0x9F b) (cond y (within 0x90 0xBF b) (cond z (within 0x80 0x8F b) (within 0x80 0xBF b)))) ≡ true
second_at a b true x y z e f g h s = passes 0xA0 0xBF b (s.E0 (eqb-true a 0xE0 e), s.any.1)
second_at a b false true y z e f g h s = passes 0x80 0x9F b (s.any.0, s.ED (eqb-true a 0xED f))
second_at a b false false true z e f g h s = passes 0x90 0xBF b (s.F0 (eqb-true a 0xF0 g), s.any.1)
second_at a b false false false true e f g h s = passes 0x80 0x8F b (s.any.0, s.F4 (eqb-true a 0xF4 h))
second_at a b false false false false e f g h s = passes 0x80 0xBF b s.any

pub second_of : (a b : ℕ) → Seconds a b → second a b ≡ true
second_of a b s = second_at a b (eqb a 0xE0) (eqb a 0xED) (eqb a 0xF0) (eqb a 0xF4) refl refl refl refl s

-- A text that is not empty, by the bytes of its first character.
pub data View (a : ℕ) (bytes : List ℕ) : Type 0 where
  view_1 : a < 0x80 → Text bytes → View a bytes
  view_2 : (b : ℕ) (rest : List ℕ) → In 0xC2 0xDF a → In 0x80 0xBF b → bytes ≡ b ∷ rest → Text rest → View a bytes
  view_3 : (b c : ℕ) (rest : List ℕ) → In 0xE0 0xEF a → Seconds a b → In 0x80 0xBF c → bytes ≡ b ∷ c ∷ rest → Text rest → View a bytes
  view_4 : (b c d : ℕ) (rest : List ℕ) → In 0xF0 0xF4 a → Seconds a b → In 0x80 0xBF c → In 0x80 0xBF d → bytes ≡ b ∷ c ∷ d ∷ rest → Text rest → View a bytes

-- The first two bytes of a character of three and of four.
bytes_3 : (c a b : ℕ) → 0x800 ≤ c → c < 0x10000 → Scalar c → a ≡ 0xE0 + c / 4096 → b ≡ 0x80 + c / 64 % 64 → In 0xE0 0xEF a × Seconds a b
bytes_3 c a b l h (inl s) e f = (
  (omega arith, omega arith),
  record { any = (omega arith, omega arith); E0 = λ q. omega arith; ED = λ q. omega arith; F0 = λ q. omega arith; F4 = λ q. omega arith },
)
bytes_3 c a b l h (inr s) e f = (
  (omega arith, omega arith),
  record { any = (omega arith, omega arith); E0 = λ q. omega arith; ED = λ q. omega (arith, s.0); F0 = λ q. omega arith; F4 = λ q. omega arith },
)

bytes_4 : (c a b : ℕ) → 0x10000 ≤ c → c ≤ 0x10FFFF → a ≡ 0xF0 + c / 262144 → b ≡ 0x80 + c / 4096 % 64 → In 0xF0 0xF4 a × Seconds a b
bytes_4 c a b l h e f = (
  (omega arith, omega arith),
  record { any = (omega arith, omega arith); E0 = λ q. omega arith; ED = λ q. omega arith; F0 = λ q. omega arith; F4 = λ q. omega arith },
)

most : (c : ℕ) → Scalar c → c ≤ 0x10FFFF
most c (inl s) = omega arith
most c (inr s) = s.1

view_at : (a : ℕ) (bytes : List ℕ) (c : ℕ) (rest : List ℕ) → Scalar c → written c ++ rest ≡ a ∷ bytes → Text rest
    → (c < 0x80) ⊎ (0x80 ≤ c) → (c < 0x800) ⊎ (0x800 ≤ c) → (c < 0x10000) ⊎ (0x10000 ≤ c) → View a bytes
view_at a bytes c rest sc e t (inl h) i j =
    let w : c ∷ rest ≡ a ∷ bytes = ap (λ l. l ++ rest) (sym (written_1 c h)) ∙ e in
    let p : c ≡ a = cc in
    let q : rest ≡ bytes = cc in
    view_1 (omega arith) (subst Text q t)
view_at a bytes c rest sc e t (inr h) (inl i) j =
    let w : (0xC0 + c / 64) ∷ more c ∷ rest ≡ a ∷ bytes = ap (λ l. l ++ rest) (sym (written_2 c h i)) ∙ e in
    let p : 0xC0 + c / 64 ≡ a = cc in
    let q : more c ∷ rest ≡ bytes = cc in
    view_2 (more c) rest (omega arith, omega arith) (omega arith, omega arith) (sym q) t
view_at a bytes c rest sc e t (inr h) (inr i) (inl j) =
    let w : (0xE0 + c / 4096) ∷ more (c / 64) ∷ more c ∷ rest ≡ a ∷ bytes = ap (λ l. l ++ rest) (sym (written_3 c i j)) ∙ e in
    let p : 0xE0 + c / 4096 ≡ a = cc in
    let q : more (c / 64) ∷ more c ∷ rest ≡ bytes = cc in
    let n = bytes_3 c a (more (c / 64)) i j sc (sym p) refl in
    view_3 (more (c / 64)) (more c) rest n.0 n.1 (omega arith, omega arith) (sym q) t
view_at a bytes c rest sc e t (inr h) (inr i) (inr j) =
    let w : (0xF0 + c / 262144) ∷ more (c / 4096) ∷ more (c / 64) ∷ more c ∷ rest ≡ a ∷ bytes = ap (λ l. l ++ rest) (sym (written_4 c j)) ∙ e in
    let p : 0xF0 + c / 262144 ≡ a = cc in
    let q : more (c / 4096) ∷ more (c / 64) ∷ more c ∷ rest ≡ bytes = cc in
    let n = bytes_4 c a (more (c / 4096)) j (most c sc) (sym p) refl in
    view_4 (more (c / 4096)) (more (c / 64)) (more c) rest n.0 n.1 (omega arith, omega arith) (omega arith, omega arith) (sym q) t

view : {a : ℕ} {bytes : List ℕ} → Text (a ∷ bytes) → View a bytes
view {a = a} {bytes = bytes} (one_more c rest all sc e t) = view_at a bytes c rest sc e t (cases_lt c 0x80) (cases_lt c 0x800) (cases_lt c 0x10000)

-- And back: the code point of the bytes.
scalar_3 : (a b c : ℕ) → In 0xE0 0xEF a → Seconds a b → In 0x80 0xBF c → (a < 0xED) ⊎ (0xED ≤ a) → (0xED < a) ⊎ (a ≤ 0xED) → Scalar ((a - 0xE0) * 4096 + (b - 0x80) * 64 + (c - 0x80))
scalar_3 a b c i s k (inl h) j = let y = s.any in inl (omega arith)
scalar_3 a b c i s k (inr h) (inl j) = let y = s.any in inr (omega arith, omega arith)
scalar_3 a b c i s k (inr h) (inr j) = let y = s.any in let z = s.ED (omega arith) in inl (omega arith)

low_3 : (a b c : ℕ) → In 0xE0 0xEF a → Seconds a b → In 0x80 0xBF c → (0xE0 < a) ⊎ (a ≤ 0xE0) → 0x800 ≤ (a - 0xE0) * 4096 + (b - 0x80) * 64 + (c - 0x80)
low_3 a b c i s k (inl h) = omega arith
low_3 a b c i s k (inr h) = let z = s.E0 (omega arith) in omega arith

low_4 : (a b c d : ℕ) → In 0xF0 0xF4 a → Seconds a b → (0xF0 < a) ⊎ (a ≤ 0xF0) → 0x10000 ≤ (a - 0xF0) * 262144 + (b - 0x80) * 4096 + (c - 0x80) * 64 + (d - 0x80)
low_4 a b c d i s (inl h) = omega arith
low_4 a b c d i s (inr h) = let z = s.F0 (omega arith) in omega arith

high_4 : (a b c d : ℕ) → In 0xF0 0xF4 a → Seconds a b → In 0x80 0xBF c → In 0x80 0xBF d → (a < 0xF4) ⊎ (0xF4 ≤ a) → (a - 0xF0) * 262144 + (b - 0x80) * 4096 + (c - 0x80) * 64 + (d - 0x80) ≤ 0x10FFFF
high_4 a b c d i s k l (inl h) = let y = s.any in omega arith
high_4 a b c d i s k l (inr h) = let y = s.any in let z = s.F4 (omega arith) in omega arith

two_bytes : (a b n : ℕ) → In 0xC2 0xDF a → In 0x80 0xBF b → n ≡ (a - 0xC0) * 64 + (b - 0x80) → written n ≡ a ∷ b ∷ []
two_bytes a b n i k e =
    let p : 0xC0 + n / 64 ≡ a = omega arith in
    let q : more n ≡ b = omega arith in
    written_2 n (omega arith) (omega arith) ∙ ap (λ x. x ∷ more n ∷ []) p ∙ ap (λ x. a ∷ x ∷ []) q

three_bytes : (a b c n : ℕ) → In 0xE0 0xEF a → In 0x80 0xBF b → In 0x80 0xBF c → 0x800 ≤ n → n ≡ (a - 0xE0) * 4096 + (b - 0x80) * 64 + (c - 0x80) → written n ≡ a ∷ b ∷ c ∷ []
three_bytes a b c n i k l m e =
    let p : 0xE0 + n / 4096 ≡ a = omega arith in
    let q : more (n / 64) ≡ b = omega arith in
    let r : more n ≡ c = omega arith in
    written_3 n m (omega arith) ∙ ap (λ x. x ∷ more (n / 64) ∷ more n ∷ []) p ∙ ap (λ x. a ∷ x ∷ more n ∷ []) q ∙ ap (λ x. a ∷ b ∷ x ∷ []) r

four_bytes : (a b c d n : ℕ) → In 0xF0 0xF4 a → In 0x80 0xBF b → In 0x80 0xBF c → In 0x80 0xBF d → 0x10000 ≤ n
    → n ≡ (a - 0xF0) * 262144 + (b - 0x80) * 4096 + (c - 0x80) * 64 + (d - 0x80) → written n ≡ a ∷ b ∷ c ∷ d ∷ []
four_bytes a b c d n i k l m o e =
    let p : 0xF0 + n / 262144 ≡ a = omega arith in
    let q : more (n / 4096) ≡ b = omega arith in
    let r : more (n / 64) ≡ c = omega arith in
    let s : more n ≡ d = omega arith in
    written_4 n o ∙ ap (λ x. x ∷ more (n / 4096) ∷ more (n / 64) ∷ more n ∷ []) p ∙ ap (λ x. a ∷ x ∷ more (n / 64) ∷ more n ∷ []) q ∙ ap (λ x. a ∷ b ∷ x ∷ more n ∷ []) r ∙ ap (λ x. a ∷ b ∷ c ∷ x ∷ []) s

text_of : (a : ℕ) (bytes : List ℕ) → View a bytes → Text (a ∷ bytes)
text_of a bytes (view_1 h t) = one_more a bytes (a ∷ bytes) (inl (omega arith)) (ap (λ l. l ++ bytes) (written_1 a h)) t
text_of a bytes (view_2 b rest i k e t) =
    let n = (a - 0xC0) * 64 + (b - 0x80) in
    one_more n rest (a ∷ bytes) (inl (omega arith)) (ap (λ l. l ++ rest) (two_bytes a b n i k refl) ∙ ap (λ l. a ∷ l) (sym e)) t
text_of a bytes (view_3 b c rest i s k e t) =
    let n = (a - 0xE0) * 4096 + (b - 0x80) * 64 + (c - 0x80) in
    one_more n rest (a ∷ bytes) (scalar_3 a b c i s k (cases_lt a 0xED) (cases_lt 0xED a))
    (ap (λ l. l ++ rest) (three_bytes a b c n i s.any k (low_3 a b c i s k (cases_lt 0xE0 a)) refl) ∙ ap (λ l. a ∷ l) (sym e)) t
text_of a bytes (view_4 b c d rest i s k l e t) =
    let n = (a - 0xF0) * 262144 + (b - 0x80) * 4096 + (c - 0x80) * 64 + (d - 0x80) in
    let low : 0x10000 ≤ n = low_4 a b c d i s (cases_lt 0xF0 a) in
    one_more n rest (a ∷ bytes) (inr (omega arith, high_4 a b c d i s k l (cases_lt a 0xF4)))
    (ap (λ l. l ++ rest) (four_bytes a b c d n i s.any k l low refl) ∙ ap (λ l. a ∷ l) (sym e)) t

-- The bytes that make whole what was seen.
abbrev After : (List ℕ → Type 0) → List ℕ → Type 0
After P [] = ⊥
After P (b ∷ bytes) = In 0x80 0xBF b × P bytes

abbrev Lead : ℕ → Type 0
Lead a = In 0xC2 0xF4 a

abbrev Rest : Utf8 → List ℕ → Type 0
Rest Start bytes = Text bytes
Rest (Second a) bytes = Lead a × Text (a ∷ bytes)
Rest Tail1 bytes = After Text bytes
Rest Tail2 bytes = After (λ rest. After Text rest) bytes
Rest Bad bytes = ⊥

-- A first byte that is remembered is one of a character of several bytes.
abbrev Sane : Utf8 → Type 0
Sane Start = Unit {0}
Sane (Second a) = Lead a
Sane Tail1 = Unit {0}
Sane Tail2 = Unit {0}
Sane Bad = Unit {0}

sane_start : (b : ℕ) (x y : Bool) → within 0xC2 0xF4 b ≡ y → Sane (cond x Start (cond y (Second b) Bad))
sane_start b true y e = tt
sane_start b false true e = tested 0xC2 0xF4 b e
sane_start b false false e = tt

sane_second : (x y z : Bool) → Sane (cond x (cond y Start (cond z Tail1 Tail2)) Bad)
sane_second true true z = tt
sane_second true false true = tt
sane_second true false false = tt
sane_second false y z = tt

sane_tail : (x : Bool) → Sane (cond x Start Bad)
sane_tail true = tt
sane_tail false = tt

sane_tail2 : (x : Bool) → Sane (cond x Tail1 Bad)
sane_tail2 true = tt
sane_tail2 false = tt

sane_step : (s : Utf8) (b : ℕ) → Sane (stepped s b)
sane_step Start b = sane_start b (leb b 0x7F) (within 0xC2 0xF4 b) refl
sane_step (Second a) b = sane_second (second a b) (ltb a 0xE0) (ltb a 0xF0)
sane_step Tail1 b = sane_tail (within 0x80 0xBF b)
sane_step Tail2 b = sane_tail2 (within 0x80 0xBF b)
sane_step Bad b = tt

-- What makes whole the bytes seen with one more makes whole, with that one, the bytes seen.
sound_start : (b : ℕ) (bytes : List ℕ) (x y : Bool) → leb b 0x7F ≡ x → within 0xC2 0xF4 b ≡ y → Rest (cond x Start (cond y (Second b) Bad)) bytes → Text (b ∷ bytes)
sound_start b bytes true y e f r = let h = leb-true b 0x7F e in text_of b bytes (view_1 (omega arith) r)
sound_start b bytes false true e f r = r.1
sound_start b bytes false false e f r = absurd r

sound_after : (a b : ℕ) (bytes : List ℕ) (x y : Bool) → Lead a → Seconds a b → ltb a 0xE0 ≡ x → ltb a 0xF0 ≡ y → Rest (cond x Start (cond y Tail1 Tail2)) bytes → View a (b ∷ bytes)
sound_after a b bytes true y i s e f r = let h = ltb-true a 0xE0 e in view_2 b bytes (i.0, omega arith) s.any refl r
sound_after a b [] false true i s e f r = absurd r
sound_after a b (c ∷ bytes) false true i s e f r =
    let h = ltb-false a 0xE0 e in let k = ltb-true a 0xF0 f in view_3 b c bytes (omega arith, omega arith) s r.0 refl r.1
sound_after a b [] false false i s e f r = absurd r
sound_after a b (c ∷ []) false false i s e f r = absurd r.1
sound_after a b (c ∷ d ∷ bytes) false false i s e f r =
    let k = ltb-false a 0xF0 f in view_4 b c d bytes (omega arith, i.1) s r.0 r.1.0 refl r.1.1

sound_second : (a b : ℕ) (bytes : List ℕ) (x : Bool) → Lead a → second a b ≡ x → Rest (cond x (after_second_byte a) Bad) bytes → Lead a × Text (a ∷ b ∷ bytes)
sound_second a b bytes true i e r = (i, text_of a (b ∷ bytes) (sound_after a b bytes (ltb a 0xE0) (ltb a 0xF0) i (seconds a b e) refl refl r))
sound_second a b bytes false i e r = absurd r

sound_tail : (b : ℕ) (bytes : List ℕ) (s : Utf8) (x : Bool) → within 0x80 0xBF b ≡ x → Rest (cond x s Bad) bytes → In 0x80 0xBF b × Rest s bytes
sound_tail b bytes s true e r = (tested 0x80 0xBF b e, r)
sound_tail b bytes s false e r = absurd r

sound : (s : Utf8) (b : ℕ) (bytes : List ℕ) → Sane s → Rest (stepped s b) bytes → Rest s (b ∷ bytes)
sound Start b bytes g r = sound_start b bytes (leb b 0x7F) (within 0xC2 0xF4 b) refl refl r
sound (Second a) b bytes g r = sound_second a b bytes (second a b) g refl r
sound Tail1 b bytes g r = sound_tail b bytes Start (within 0x80 0xBF b) refl r
sound Tail2 b bytes g r = sound_tail b bytes Tail1 (within 0x80 0xBF b) refl r
sound Bad b bytes g r = r

-- And the other way.
to_start : (b : ℕ) → b < 0x80 → stepped Start b ≡ Start
to_start b h = cond-true _ _ _ (le-leb b 0x7F (omega arith))

to_second : (b : ℕ) → Lead b → stepped Start b ≡ Second b
to_second b i = cond-false _ _ _ (lt-leb b 0x7F (omega arith)) ∙ cond-true _ _ _ (passes 0xC2 0xF4 b i)

complete_start : (b : ℕ) (bytes : List ℕ) → Text (b ∷ bytes) → View b bytes → Rest (stepped Start b) bytes
complete_start b bytes w (view_1 h t) = subst (λ (s : Utf8). Rest s bytes) (sym (to_start b h)) t
complete_start b bytes w (view_2 c rest i k e t) = let l : Lead b = (omega arith, omega arith) in subst (λ (s : Utf8). Rest s bytes) (sym (to_second b l)) (l, w)
complete_start b bytes w (view_3 c d rest i s k e t) = let l : Lead b = (omega arith, omega arith) in subst (λ (s : Utf8). Rest s bytes) (sym (to_second b l)) (l, w)
complete_start b bytes w (view_4 c d f rest i s k m e t) = let l : Lead b = (omega arith, omega arith) in subst (λ (s : Utf8). Rest s bytes) (sym (to_second b l)) (l, w)

plain_seconds : (a b : ℕ) → In 0xC2 0xDF a → In 0x80 0xBF b → Seconds a b
plain_seconds a b i k = record { any = k; E0 = λ q. omega arith; ED = λ q. omega arith; F0 = λ q. omega arith; F4 = λ q. omega arith }

to_after : (a b b' : ℕ) → b ≡ b' → Seconds a b' → stepped (Second a) b ≡ after_second_byte a
to_after a b b' e s = ap (λ x. cond (second a x) (after_second_byte a) Bad) e ∙ cond-true _ _ _ (second_of a b' s)

complete_second : (a b : ℕ) (bytes : List ℕ) → Lead a → View a (b ∷ bytes) → Rest (stepped (Second a) b) bytes
complete_second a b bytes l (view_1 h t) = absurd (omega arith)
complete_second a b bytes l (view_2 c rest i k e t) =
    let p : b ≡ c = cc in let q : rest ≡ bytes = cc in
    let s : stepped (Second a) b ≡ Start = to_after a b c p (plain_seconds a c i k) ∙ cond-true _ _ _ (lt-ltb a 0xE0 (omega arith)) in
    subst (λ (u : Utf8). Rest u bytes) (sym s) (subst Text q t)
complete_second a b bytes l (view_3 c d rest i s k e t) =
    let p : b ≡ c = cc in let q : bytes ≡ d ∷ rest = cc in
    let u : stepped (Second a) b ≡ Tail1 = to_after a b c p s ∙ cond-false _ _ _ (le-ltb a 0xE0 i.0) ∙ cond-true _ _ _ (lt-ltb a 0xF0 (omega arith)) in
    subst (λ (v : Utf8). Rest v bytes) (sym u) (subst (λ v. After Text v) (sym q) (k, t))
complete_second a b bytes l (view_4 c d f rest i s k m e t) =
    let p : b ≡ c = cc in let q : bytes ≡ d ∷ f ∷ rest = cc in
    let u : stepped (Second a) b ≡ Tail2 = to_after a b c p s ∙ cond-false _ _ _ (le-ltb a 0xE0 (omega arith)) ∙ cond-false _ _ _ (le-ltb a 0xF0 i.0) in
    subst (λ (v : Utf8). Rest v bytes) (sym u) (subst (λ v. After (λ w. After Text w) v) (sym q) (k, (m, t)))

complete_tail : (b : ℕ) (bytes : List ℕ) (s : Utf8) → In 0x80 0xBF b → Rest s bytes → Rest (cond (within 0x80 0xBF b) s Bad) bytes
complete_tail b bytes s i r = subst (λ (u : Utf8). Rest u bytes) (sym (cond-true _ _ _ (passes 0x80 0xBF b i))) r

complete : (s : Utf8) (b : ℕ) (bytes : List ℕ) → Rest s (b ∷ bytes) → Rest (stepped s b) bytes
complete Start b bytes r = complete_start b bytes r (view r)
complete (Second a) b bytes r = complete_second a b bytes r.0 (view r.1)
complete Tail1 b bytes r = complete_tail b bytes Start r.0 r.1
complete Tail2 b bytes r = complete_tail b bytes Tail1 r.0 r.1
complete Bad b bytes r = r

-- At the end of the bytes.
ended : (s : Utf8) → whole s ≡ true → Rest s []
ended Start e = no_more
ended (Second a) e = let z : ◌≡◌ {A = ℕ} 0 1 = cc in absurd (omega arith)
ended Tail1 e = let z : ◌≡◌ {A = ℕ} 0 1 = cc in absurd (omega arith)
ended Tail2 e = let z : ◌≡◌ {A = ℕ} 0 1 = cc in absurd (omega arith)
ended Bad e = let z : ◌≡◌ {A = ℕ} 0 1 = cc in absurd (omega arith)

lead_lacks : (a : ℕ) → Lead a → View a [] → ⊥
lead_lacks a l (view_1 h t) = omega arith
lead_lacks a l (view_2 b rest i k e t) = omega (arith, ap length e)
lead_lacks a l (view_3 b c rest i s k e t) = omega (arith, ap length e)
lead_lacks a l (view_4 b c d rest i s k m e t) = omega (arith, ap length e)

at_end : (s : Utf8) → Rest s [] → whole s ≡ true
at_end Start r = refl
at_end (Second a) r = absurd (lead_lacks a r.0 (view r.1))
at_end Tail1 r = absurd r
at_end Tail2 r = absurd r
at_end Bad r = absurd r

accepted : (s : Utf8) (bytes : List ℕ) → Sane s → whole (run s bytes) ≡ true → Rest s bytes
accepted s [] g e = ended s e
accepted s (b ∷ bytes) g e = sound s b bytes g (accepted (stepped s b) bytes (sane_step s b) e)

accepts : (s : Utf8) (bytes : List ℕ) → Rest s bytes → whole (run s bytes) ≡ true
accepts s [] r = at_end s r
accepts s (b ∷ bytes) r = accepts (stepped s b) bytes (complete s b bytes r)

pub decides_text : (bytes : List ℕ) (r : Bool) → r ≡ whole (run Start bytes) → Decides r (Text bytes)
decides_text bytes r e = (λ p. accepted Start bytes tt (sym e ∙ p), λ t. e ∙ accepts Start bytes t)
