-- What is read one token at a time is what the tokens spell, nests 1,000 deep at most, and has words that begin with `-` only where they are passed over.
use Rattle.std.proofs.Common.{◌≡◌, ℕ, suc, ◌+◌, ◌-◌, ◌≤◌, Bool, true, false, not, ◌||◌, List, [], ◌∷◌, length, map, refl, sym, ap, ◌∙◌, inr, arith}
use Rattle.std.specs.Prelude.{◌⊎◌, max, ⊤, nat_le, Result, IfOk}
use Rattle.std.proofs.lemmas.Bool.{or_parts, and_parts}
use Rattle.std.proofs.lemmas.Bool.Decides.{nat_tests}
use Rattle.std.proofs.lemmas.Grind.{common_steps}
use Rattle.model.specs.lists.Syntax.{Position, Name}
use Rattle.text_reader.specs.Lexemes.{Lexeme, begin_list, word, binder, Wrong, ◌>>=◌, erased}
use Rattle.text_reader.specs.FormTrees.{FormTree, a_binding, a_list, FormTrees, no_form, form_and, spelled, all_spelled, depth, all_depth}
use Rattle.text_reader.specs.PassedOver.{is_passed_over, is_dashed, has_dash, have_dash, dashes_are_passed_over}
use Rattle.text_reader.specs.PassedOver.{mark, AreMarked}
use Rattle.text_reader.specs.Forming.{Begun, a_group, a_binder, FormsSoFar, behind, put, passes, started, formed, whole, forms_from, forms_of}

next : {A B : Type 0} (r : Result A Wrong) (f : A → Result B Wrong) (Q : A → Type 0) (R : B → Type 0) → IfOk r Q → ((x : A) → Q x → IfOk (f x) R) → IfOk (r >>= f) R
next r f Q R q go = grind (arith, common_steps)

-- ---- spelled

abbrev begun_spelled : Begun → List Lexeme → List Lexeme
begun_spelled (a_group gs p) after = begin_list p ∷ all_spelled gs after
begun_spelled (a_binder n) after = binder n ∷ after

abbrev opened : List Begun → List Lexeme → List Lexeme
opened [] after = after
opened (o ∷ os) after = opened os (begun_spelled o after)

behind_spelled : (fs : FormTrees) (f : FormTree) (after : List Lexeme) → all_spelled (behind fs f) after ≡ all_spelled fs (spelled f after)
behind_spelled no_form f after = refl
behind_spelled (form_and g gs) f after = ap (spelled g) (behind_spelled gs f after)

put_spelled : (f : FormTree) (fs : FormTrees) (os : List Begun) (after : List Lexeme)
    → all_spelled (put f fs os).0 (opened (put f fs os).1 after) ≡ all_spelled fs (opened os (spelled f after))
put_spelled f fs [] after = behind_spelled fs f after
put_spelled f fs (a_binder n ∷ os) after = put_spelled (a_binding n f) fs os after
put_spelled f fs (a_group gs p ∷ os) after = ap (λ ts. all_spelled fs (opened os (begin_list p ∷ ts))) (behind_spelled gs f after)

abbrev Spells : FormTrees → List Begun → Lexeme → FormsSoFar → Type 0
Spells fs os t s = (after : List Lexeme) → all_spelled s.0 (opened s.1 after) ≡ all_spelled fs (opened os (erased t ∷ after))

started_if : (P : FormsSoFar → Type 0) (o : Begun) (p : Position) (fs : FormTrees) (os : List Begun) → ((nat_le 1000 (length os) ≡ false) → P (fs, o ∷ os)) → IfOk (started o p fs os) P
started_if P o p fs os h = grind (arith, common_steps)

step_spelled : (t : Lexeme) (fs : FormTrees) (os : List Begun) → IfOk (formed t fs os) (Spells fs os t)
step_spelled t fs os = grind (arith, common_steps, started_if, put_spelled)

if_whole : (file end : ℕ) (fs : FormTrees) (os : List Begun) (P : FormTrees → Type 0) → (os ≡ [] → P fs) → IfOk (whole file end fs os) P
if_whole file end fs os P h = grind (arith, common_steps)

spelled_from : (file end : ℕ) (ts : List Lexeme) (fs : FormTrees) (os : List Begun) (all : List Lexeme) → all_spelled fs (opened os (map erased ts)) ≡ all
    → IfOk (forms_from file end ts fs os) (λ gs. all_spelled gs [] ≡ all)
spelled_from file end [] fs os all e = if_whole file end fs os (λ gs. all_spelled gs [] ≡ all) (λ none. ap (λ o. all_spelled fs (opened o [])) (sym none) ∙ e)
spelled_from file end (t ∷ ts) fs os all e =
    next (formed t fs os) _ (Spells fs os t) (λ gs. all_spelled gs [] ≡ all) (step_spelled t fs os)
    (λ s h. spelled_from file end ts s.0 s.1 all (h (map erased ts) ∙ e))

pub forms_spelled : (file end : ℕ) (ts : List Lexeme) → IfOk (forms_of file end ts) (λ gs. all_spelled gs [] ≡ map erased ts)
forms_spelled file end ts = spelled_from file end ts no_form [] (map erased ts) refl

-- ---- nested 1,000 deep at most

abbrev begun_depth : Begun → ℕ
begun_depth (a_group gs p) = all_depth gs
begun_depth (a_binder n) = 0

abbrev AreShallow : List Begun → Type 0
AreShallow [] = ⊤
AreShallow (o ∷ os) = (begun_depth o + suc (length os) ≤ 1000) × AreShallow os

abbrev IsShallow : FormsSoFar → Type 0
IsShallow s = (all_depth s.0 ≤ 1000) × AreShallow s.1

greatest : (a b n : ℕ) → a ≤ n → b ≤ n → max a b ≤ n
greatest a b n h k = omega arith

behind_depth : (fs : FormTrees) (f : FormTree) (n : ℕ) → all_depth fs ≤ n → depth f ≤ n → all_depth (behind fs f) ≤ n
behind_depth no_form f n h k = greatest (depth f) 0 n k (omega arith)
behind_depth (form_and g gs) f n h k = grind (arith, common_steps, behind_depth gs f n, greatest)

put_depth : (f : FormTree) (fs : FormTrees) (os : List Begun) → depth f + length os ≤ 1000 → all_depth fs ≤ 1000 → AreShallow os → IsShallow (put f fs os)
put_depth f fs [] h all are = (behind_depth fs f 1000 all (omega (arith, h)), tt)
put_depth f fs (a_binder n ∷ os) h all are = put_depth (a_binding n f) fs os (omega (arith, h)) all are.1
put_depth f fs (a_group gs p ∷ os) h all are = grind (arith, common_steps, behind_depth gs f (1000 - suc (length os)))

step_depth : (t : Lexeme) (fs : FormTrees) (os : List Begun) → all_depth fs ≤ 1000 → AreShallow os → length os ≤ 1000 → IfOk (formed t fs os) (λ s. IsShallow s)
step_depth t fs os all are fit = grind (arith, common_steps, started_if, nat_tests, put_depth)

fits : (os : List Begun) → AreShallow os → length os ≤ 1000
fits [] are = omega arith
fits (o ∷ os) are = omega (arith, are.0)

depth_from : (file end : ℕ) (ts : List Lexeme) (fs : FormTrees) (os : List Begun) → all_depth fs ≤ 1000 → AreShallow os → IfOk (forms_from file end ts fs os) (λ gs. all_depth gs ≤ 1000)
depth_from file end [] fs os all are = if_whole file end fs os (λ gs. all_depth gs ≤ 1000) (λ none. all)
depth_from file end (t ∷ ts) fs os all are =
    next (formed t fs os) _ IsShallow (λ gs. all_depth gs ≤ 1000) (step_depth t fs os all are (fits os are)) (λ s h. depth_from file end ts s.0 s.1 h.0 h.1)

pub forms_shallow : (file end : ℕ) (ts : List Lexeme) → IfOk (forms_of file end ts) (λ gs. all_depth gs ≤ 1000)
forms_shallow file end ts = depth_from file end ts no_form [] (omega arith) tt

-- ---- words that begin with `-`

-- a form may have such words only if the outermost form, once it is whole, is passed over
abbrev pub Takes : FormTree → List Begun → Type 0
Takes f [] = (not (has_dash f) || is_passed_over f) ≡ true
Takes f (o ∷ os) = (has_dash f ≡ false) ⊎ (passes (o ∷ os) ≡ true)

pub takes_clean : (f : FormTree) (os : List Begun) → has_dash f ≡ false → Takes f os
takes_clean f os e = grind (arith, common_steps)

takes_over : (f : FormTree) (os : List Begun) → passes os ≡ true → Takes f os
takes_over f os over = grind (arith, common_steps)

abbrev AreClean : List Begun → Type 0
AreClean [] = ⊤
AreClean (a_group gs p ∷ os) = (have_dash gs ≡ false) × AreClean os
AreClean (a_binder n ∷ os) = AreClean os

abbrev AreFine : List Begun → Type 0
AreFine os = (passes os ≡ true) ⊎ AreClean os

abbrev IsFine : FormsSoFar → Type 0
IsFine s = (dashes_are_passed_over s.0 ≡ true) × AreFine s.1

behind_dashes : (fs : FormTrees) (f : FormTree) → dashes_are_passed_over fs ≡ true → (not (has_dash f) || is_passed_over f) ≡ true → dashes_are_passed_over (behind fs f) ≡ true
behind_dashes no_form f h k = rw k refl
behind_dashes (form_and g gs) f h k = grind (arith, common_steps, behind_dashes gs f, and_parts)

behind_clean : (gs : FormTrees) (f : FormTree) → have_dash gs ≡ false → has_dash f ≡ false → have_dash (behind gs f) ≡ false
behind_clean no_form f h k = rw k refl
behind_clean (form_and g gs) f h k = grind (arith, common_steps, behind_clean gs f, or_parts)

more_passes : (gs : FormTrees) (p : Position) (f : FormTree) (os : List Begun) → passes (a_group gs p ∷ os) ≡ true → passes (a_group (behind gs f) p ∷ os) ≡ true
more_passes gs p f os h = grind (arith, common_steps)

group_fine : (gs : FormTrees) (p : Position) (f : FormTree) (os : List Begun) → AreFine (a_group gs p ∷ os) → Takes f (a_group gs p ∷ os) → AreFine (a_group (behind gs f) p ∷ os)
group_fine gs p f os k h = grind (arith, common_steps, more_passes, behind_clean)

bound_alone : (n : Name) (f : FormTree) → Takes f (a_binder n ∷ []) → Takes (a_binding n f) []
bound_alone n f h = grind (arith, common_steps, takes_clean)

put_fine : (f : FormTree) (fs : FormTrees) (os : List Begun) → dashes_are_passed_over fs ≡ true → AreFine os → Takes f os → IsFine (put f fs os)
put_fine f fs [] all fine h = (behind_dashes fs f all h, inr tt)
put_fine f fs (a_binder n ∷ []) all fine h = put_fine (a_binding n f) fs [] all (inr tt) (bound_alone n f h)
put_fine f fs (a_binder n ∷ o ∷ os) all fine h = put_fine (a_binding n f) fs (o ∷ os) all fine h
put_fine f fs (a_group gs p ∷ os) all fine h = (all, group_fine gs p f os fine h)

group_begun : (p : Position) (os : List Begun) → AreFine os → AreFine (a_group no_form p ∷ os)
group_begun p os fine = grind (arith, common_steps)

binder_begun : (n : Name) (os : List Begun) → AreFine os → AreFine (a_binder n ∷ os)
binder_begun n os fine = grind (arith, common_steps)

or_true : (b : Bool) → (b || true) ≡ true
or_true b = grind (arith, common_steps)

list_ended : (gs : FormTrees) (p e : Position) (os : List Begun) → AreFine (a_group gs p ∷ os) → Takes (a_list gs p e) os × AreFine os
list_ended gs p e os h = grind (arith, common_steps, or_true, takes_clean)

word_clean : (n : Name) → mark (word n) ≡ word n → is_dashed n.text ≡ false
word_clean n e = grind (arith, common_steps)

step_fine : (t : Lexeme) (fs : FormTrees) (os : List Begun) → mark (erased t) ≡ t → dashes_are_passed_over fs ≡ true → AreFine os → IfOk (formed t fs os) IsFine
step_fine t fs os m all fine = grind (arith, common_steps, started_if, group_begun, list_ended, put_fine, takes_clean, word_clean, takes_over, binder_begun)

fine_from : (file end : ℕ) (ts : List Lexeme) (fs : FormTrees) (os : List Begun) → AreMarked ts → dashes_are_passed_over fs ≡ true → AreFine os → IfOk (forms_from file end ts fs os) (λ gs. dashes_are_passed_over gs ≡ true)
fine_from file end [] fs os m all fine = if_whole file end fs os (λ gs. dashes_are_passed_over gs ≡ true) (λ none. all)
fine_from file end (t ∷ ts) fs os m all fine =
    next (formed t fs os) _ IsFine (λ gs. dashes_are_passed_over gs ≡ true) (step_fine t fs os m.0 all fine) (λ s h. fine_from file end ts s.0 s.1 m.1 h.0 h.1)

pub forms_fine : (file end : ℕ) (ts : List Lexeme) → AreMarked ts → IfOk (forms_of file end ts) (λ gs. dashes_are_passed_over gs ≡ true)
forms_fine file end ts m = fine_from file end ts no_form [] m refl (inr tt)
