-- Steps of loops over cases.
use Rattle.std.proofs.Common.{◌≡◌, ℕ, ◌+◌, ◌<◌, ◌≤◌, true, false, List, [], ◌∷◌, ◌++◌, get_or, drop, length, map, refl, sym, ap, ◌∙◌}
use Rattle.std.proofs.lemmas.Bool.{false≢true}
use Rattle.std.proofs.lemmas.List.{append-nil, append_assoc, at_drop_more, at_drop_all, map-append}
use Rattle.model_questions.specs.Formulas as MF
use Rattle.model_questions.specs.Forms as M
use Rattle.spec_cases.specs.declared.cases.Case.{Case}
use Rattle.spec_cases.specs.declared.formulas.Fact.{Fact}
use Rattle.spec_cases.specs.declared.formulas.Fact.TheVariants as F
use Rattle.spec_cases.specs.Arenas.{is_false}
use Rattle.spec_cases.specs.Namings.{Naming, fact_of, is_plain_fact}
use Rattle.spec_cases.specs.declared.cases.Cases.{Cases}
use Rattle.spec_cases.specs.CaseViews.{guarded_case, guarded_each, guarded, with_value}
use Rattle.spec_cases.specs.Following.{joined_parts}

-- 1. a case under a guard is the first one, or isn't kept
pub case_first : {X : Type 0} (f : MF.Fact) (x : X) (cs : List (M.Case X)) → M.case_under f x cs ≡ M.case_under f x [] ++ cs
case_first (MF.known false) x cs = refl
case_first _ x cs = refl

made_kept : {X : Type 0} (f : MF.Fact) (x : X) → is_plain_fact f ≡ false → M.case_under f x [] ≡ record { guard = f; gives = x } ∷ []
made_kept (MF.known b) x h = absurd (false≢true (sym h))
made_kept _ x h = refl

module _ {X : Type 0} (v : Naming) where
  is_kept : (f : Fact) (x : X) → is_false f ≡ false → M.case_under (fact_of v f) x [] ≡ record { guard = fact_of v f; gives = x } ∷ []
  is_kept (F.Known true) x h = refl
  is_kept (F.Known false) x h = absurd (false≢true (sym h))
  is_kept (F.At p) x h = refl
  is_kept (F.AsWide p w) x h = refl
  is_kept (F.IsKind p i) x h = refl
  is_kept (F.Made n) x h = made_kept (v.fact n.0) x (v.made_facts n.0)

  not_kept : (f : Fact) (x : X) → is_false f ≡ true → M.case_under (fact_of v f) x [] ≡ []
  not_kept (F.Known true) x h = absurd (false≢true h)
  not_kept (F.Known false) x h = refl
  not_kept (F.At p) x h = absurd (false≢true h)
  not_kept (F.AsWide p w) x h = absurd (false≢true h)
  not_kept (F.IsKind p i) x h = absurd (false≢true h)
  not_kept (F.Made n) x h = absurd (false≢true h)

  pub case_pushed : (out : List (Case X)) (f : Fact) (x : X) → is_false f ≡ false → guarded_each v (out ++ record { guard = f; gives = x } ∷ []) ≡ guarded_each v out ++ M.case_under (fact_of v f) x []
  case_pushed out f x h = map-append (guarded_case v) out (record { guard = f; gives = x } ∷ []) ∙ ap (λ l. guarded_each v out ++ l) (sym (is_kept f x h))

  pub case_left : (out : List (Case X)) (f : Fact) (x : X) → is_false f ≡ true → guarded_each v out ≡ guarded_each v out ++ M.case_under (fact_of v f) x []
  case_left out f x h = sym (append-nil (guarded_each v out)) ∙ ap (λ l. guarded_each v out ++ l) (sym (not_kept f x h))

pub ruleset guarded_steps = (case_pushed, case_left)

-- 2. the same cases of other values
module _ {X Y : Type 0} (f : X → Y) where
  mapped_case : (g : MF.Fact) (x : X) (cs : List (M.Case X)) → map (with_value f) (M.case_under g x cs) ≡ M.case_under g (f x) (map (with_value f) cs)
  mapped_case (MF.known false) x cs = refl
  mapped_case _ x cs = refl

  pub mapped_under : (g : MF.Fact) (cs : List (M.Case X)) → map (with_value f) (M.each_under g cs) ≡ M.each_under g (map (with_value f) cs)
  mapped_under g [] = refl
  mapped_under g (c ∷ cs) = mapped_case (MF.both_of g c.guard) c.gives (M.each_under g cs) ∙ ap (M.case_under (MF.both_of g c.guard) (f c.gives)) (mapped_under g cs)

  -- one more
  pub mapped_more : (v : Naming) (new out : List (Case X)) (g : MF.Fact) (x : X) (more : List (M.Case Y)) → guarded_each v new ≡ guarded_each v out ++ M.case_under g x []
      → map (with_value f) (guarded_each v new) ++ more ≡ map (with_value f) (guarded_each v out) ++ M.case_under g (f x) more
  mapped_more v new out g x more e =
      ap (λ l. map (with_value f) l ++ more) e
      ∙ ap (λ l. l ++ more) (map-append (with_value f) (guarded_each v out) (M.case_under g x []))
      ∙ append_assoc (map (with_value f) (guarded_each v out)) (map (with_value f) (M.case_under g x [])) more
      ∙ ap (λ l. map (with_value f) (guarded_each v out) ++ (l ++ more)) (mapped_case g x [])
      ∙ ap (λ l. map (with_value f) (guarded_each v out) ++ l) (sym (case_first g (f x) more))

-- 3. each under a guard
module _ {X : Type 0} (v : Naming) (g : MF.Fact) where
  abbrev each_left : List (Case X) → List (M.Case X)
  each_left cs = M.each_under g (guarded_each v cs)

  pub under_more : (out new cases : List (Case X)) (both : MF.Fact) (c : Case X) (i : ℕ) → i < length cases → c ≡ get_or cases i c
      → guarded_each v new ≡ guarded_each v out ++ M.case_under both c.gives [] → both ≡ MF.both_of g (fact_of v c.guard)
      → guarded_each v out ++ each_left (drop i cases) ≡ each_left cases → guarded_each v new ++ each_left (drop (i + 1) cases) ≡ each_left cases
  under_more out new cases both c i h at is m inv =
      let tail = each_left (drop (i + 1) cases) in
      ap (λ l. l ++ tail) is ∙ append_assoc (guarded_each v out) (M.case_under both c.gives []) tail
      ∙ ap (λ l. guarded_each v out ++ l) (sym (case_first both c.gives tail))
      ∙ ap (λ f. guarded_each v out ++ M.case_under f c.gives tail) m
      ∙ ap (λ d. guarded_each v out ++ each_left (d ∷ drop (i + 1) cases)) at ∙ ap (λ l. guarded_each v out ++ l) (sym (at_drop_more each_left cases i c h))
      ∙ inv

  pub under_done : (out cases : List (Case X)) (i : ℕ) → length cases ≤ i → guarded_each v out ++ each_left (drop i cases) ≡ each_left cases → guarded_each v out ≡ each_left cases
  under_done out cases i h inv = sym (append-nil (guarded_each v out)) ∙ ap (λ l. guarded_each v out ++ l) (sym (at_drop_all each_left cases i h)) ∙ inv

-- 4. all parts
module _ {X : Type 0} (v : Naming) where
  abbrev parts_left : List (Cases X) → List (M.Case X)
  parts_left ps = (joined_parts (map (guarded v) ps)).cases

  pub gathered_more : (out new : List (Case X)) (parts : List (Cases X)) (part : Cases X) (more : List (Case X)) (i : ℕ) → i < length parts → part ≡ get_or parts i part → more ≡ part.cases.items → new ≡ out ++ more
      → guarded_each v out ++ parts_left (drop i parts) ≡ parts_left parts → guarded_each v new ++ parts_left (drop (i + 1) parts) ≡ parts_left parts
  gathered_more out new parts part more i h at all is inv =
      let tail = parts_left (drop (i + 1) parts) in
      ap (λ l. guarded_each v l ++ tail) (is ∙ ap (λ l. out ++ l) all) ∙ ap (λ l. l ++ tail) (map-append (guarded_case v) out part.cases.items) ∙ append_assoc (guarded_each v out) (guarded_each v part.cases.items) tail
      ∙ ap (λ p. guarded_each v out ++ parts_left (p ∷ drop (i + 1) parts)) at ∙ ap (λ l. guarded_each v out ++ l) (sym (at_drop_more parts_left parts i part h))
      ∙ inv

  pub gathered_done : (out : List (Case X)) (parts : List (Cases X)) (i : ℕ) → length parts ≤ i → guarded_each v out ++ parts_left (drop i parts) ≡ parts_left parts → guarded_each v out ≡ parts_left parts
  gathered_done out parts i h inv = sym (append-nil (guarded_each v out)) ∙ ap (λ l. guarded_each v out ++ l) (sym (at_drop_all parts_left parts i h)) ∙ inv
