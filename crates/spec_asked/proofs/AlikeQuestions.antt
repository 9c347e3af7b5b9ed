-- Questions of steps ask no more of specs than sorts of types, constants and sorts of unknown functions.
use Rattle.std.proofs.Common.{◌≡◌, ℕ, ℤ, List, [], ◌∷◌, ◌++◌, Option, Some, None, slice_get, refl, ap, ap₂, ◌∙◌}
use Rattle.std.specs.Bool.{◌==◌}
use Rattle.model.specs.lists.Tables.{TypeEntry}
use Rattle.model.specs.rules.Meaning.{look}
use Rattle.model.specs.rules.Outcome.{then_option}
use Rattle.model.specs.sites.Sites.{Constraint, is_variant, is_struct, is_bool, is_int, is_prim, is_present}
use Rattle.laws_specs.specs.Specs as L
use Rattle.laws_specs.specs.Words.{Denoted, equals}
use Rattle.model_questions.specs.Formulas as M
use Rattle.model_questions.specs.Forms as MF
use Rattle.model_questions.specs.Evaluated as E
use Rattle.model_questions.specs.Questions as Q
use Rattle.model_questions.specs.Steps as S
use Rattle.spec_cases.proofs.AlikeSpecs.{then_alike, opened_alike, fitted_alike, evaluated_alike}

pub each_of_alike : {X Y : Type 0} (f g : X → List Y) → ((x : X) → f x ≡ g x) → (xs : List X) → Q.each_of f xs ≡ Q.each_of g xs
each_of_alike f g h [] = refl
each_of_alike f g h (x ∷ xs) = ap₂ (λ a b. a ++ b) (h x) (each_of_alike f g h xs)

pub widths_asked : (o : Option L.Sort) (f g : ℕ → List (List M.Fact)) (a b : List (List M.Fact)) → ((w : ℕ) → f w ≡ g w) → a ≡ b → Q.at_each_width o f a ≡ Q.at_each_width o g b
widths_asked (Some (L.words_among ws)) f g a b h e = each_of_alike f g h ws
widths_asked (Some L.truths) f g a b h e = e
widths_asked (Some L.integers) f g a b h e = e
widths_asked (Some (L.words w)) f g a b h e = e
widths_asked None f g a b h e = e

module _ (types : List TypeEntry) (a b : L.Specs) (models : a.models ≡ b.models) (constants : a.constants ≡ b.constants) (unknowns : a.unknown_sorts ≡ b.unknown_sorts) where
  come_to_alike : (k : E.Known) (s : S.Said) → Q.come_to types a k s ≡ Q.come_to types b k s
  come_to_alike k s =
      then_alike (E.evaluated types a k s.args s.result s.expr []) (E.evaluated types b k s.args s.result s.expr []) (E.opened types a k) (E.opened types b k)
      (evaluated_alike types a b models unknowns k s.args s.result s.expr []) (opened_alike types a b models unknowns k)

  same_alike : (k : E.Known) (f g : MF.Form) → Q.same_fact types a k f g ≡ Q.same_fact types b k f g
  same_alike k f g = ap MF.perhaps (fitted_alike types a b models unknowns k (MF.form_and f (MF.form_and g MF.no_form)) equals)

  same_if_alike : (k : E.Known) (f : MF.Form) (o : Option Denoted) → Q.same_if types a k f o ≡ Q.same_if types b k f o
  same_if_alike k f None = refl
  same_if_alike k f (Some x) = same_alike k f (MF.form_of x)

  literal_alike : (z : ℤ) (ty : ℕ) → L.literal_of a z ty ≡ L.literal_of b z ty
  literal_alike z ty = ap (λ l. then_option (look (λ k. k == ty) l) (λ s. L.integer_in s z)) models

  constant_alike : (name : ℕ) → L.constant_of a name ≡ L.constant_of b name
  constant_alike name = ap (look (λ k. k == name)) constants

  told_alike : (k : E.Known) (f : MF.Form) (c : Constraint) → Q.told_fact types a k f c ≡ Q.told_fact types b k f c
  told_alike k f (is_variant ty variant fields) = refl
  told_alike k f (is_struct ty fields) = refl
  told_alike k f (is_bool x ty) = refl
  told_alike k f (is_int z ty) = ap (Q.same_if types a k f) (literal_alike z ty) ∙ same_if_alike k f (L.literal_of b z ty)
  told_alike k f (is_prim name) = ap (Q.same_if types a k f) (constant_alike name) ∙ same_if_alike k f (L.constant_of b name)
  told_alike k f is_present = refl

  surely_alike : (k : E.Known) (ss : List S.Said) → Q.all_surely types a k ss ≡ Q.all_surely types b k ss
  surely_alike k [] = refl
  surely_alike k (s ∷ ss) = ap₂ (λ x y. M.both_of (MF.surely x) y) (come_to_alike k s) (surely_alike k ss)

  fact_alike : (k : E.Known) (s : S.Step) → Q.fact_of types a k s ≡ Q.fact_of types b k s
  fact_alike k (S.split_at ty at) = refl
  fact_alike k (S.told_as f c) = told_alike k f c
  fact_alike k (S.told_same f g) = same_alike k f g
  fact_alike k (S.assumed s) = ap MF.perhaps (come_to_alike k s)
  fact_alike k (S.assumed_under ss s) = ap₂ (λ x y. M.one_of (M.none_of x) (MF.perhaps y)) (surely_alike k ss) (come_to_alike k s)
  fact_alike k (S.shown s) = ap MF.surely (come_to_alike k s)

  -- the questions after a fact that is told
  told_path : (s : S.Step) (rest : List S.Step) (k : E.Known) (fs : List M.Fact)
      → ((k : E.Known) (fs : List M.Fact) → Q.paths types a rest k fs ≡ Q.paths types b rest k fs)
      → Q.unless_false (Q.fact_of types a k s) (Q.paths types a rest (Q.learned (Q.fact_of types a k s) k) (Q.fact_of types a k s ∷ fs))
      ≡ Q.unless_false (Q.fact_of types b k s) (Q.paths types b rest (Q.learned (Q.fact_of types b k s) k) (Q.fact_of types b k s ∷ fs))
  told_path s rest k fs later =
      ap (λ f. Q.unless_false f (Q.paths types a rest (Q.learned f k) (f ∷ fs))) (fact_alike k s)
      ∙ ap (Q.unless_false (Q.fact_of types b k s)) (later (Q.learned (Q.fact_of types b k s) k) (Q.fact_of types b k s ∷ fs))

  pub paths_alike : (steps : List S.Step) (k : E.Known) (fs : List M.Fact) → Q.paths types a steps k fs ≡ Q.paths types b steps k fs
  paths_alike [] k fs = refl
  paths_alike (S.split_at ty at ∷ rest) k fs =
      ap (λ l. Q.at_each_width (Q.split_sort (slice_get types ty) (look (λ n. n == ty) l)) (λ w. Q.paths types a rest (Q.with_width at w k) (M.as_wide at w ∷ fs)) (Q.paths types a rest k fs)) models
      ∙ widths_asked (Q.split_sort (slice_get types ty) (L.sort_of b ty)) (λ w. Q.paths types a rest (Q.with_width at w k) (M.as_wide at w ∷ fs))
      (λ w. Q.paths types b rest (Q.with_width at w k) (M.as_wide at w ∷ fs)) (Q.paths types a rest k fs) (Q.paths types b rest k fs)
      (λ w. paths_alike rest (Q.with_width at w k) (M.as_wide at w ∷ fs)) (paths_alike rest k fs)
  paths_alike (S.shown s ∷ rest) k fs =
      ap (λ f. (M.none_of f ∷ fs) ∷ Q.paths types a rest (Q.learned f k) (f ∷ fs)) (fact_alike k (S.shown s))
      ∙ ap (λ qs. (M.none_of (Q.fact_of types b k (S.shown s)) ∷ fs) ∷ qs) (paths_alike rest (Q.learned (Q.fact_of types b k (S.shown s)) k) (Q.fact_of types b k (S.shown s) ∷ fs))
  paths_alike (S.told_as f c ∷ rest) k fs = told_path (S.told_as f c) rest k fs (paths_alike rest)
  paths_alike (S.told_same f g ∷ rest) k fs = told_path (S.told_same f g) rest k fs (paths_alike rest)
  paths_alike (S.assumed s ∷ rest) k fs = told_path (S.assumed s) rest k fs (paths_alike rest)
  paths_alike (S.assumed_under ss s ∷ rest) k fs = told_path (S.assumed_under ss s) rest k fs (paths_alike rest)
