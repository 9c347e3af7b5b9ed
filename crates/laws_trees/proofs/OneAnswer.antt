-- Lowering gives one answer: of the same definitions, the same environments, typed rules, sets and trees; or the same errors.
use Rattle.std.proofs.Common.{◌≡◌, ℕ, suc, Bool, List, [], ◌∷◌, map, length, Option, sym, ap, ◌∙◌, subst, inr, arith}
use Rattle.std.proofs.lemmas.Option.{same_Some}
use Rattle.std.proofs.lemmas.Grind.{common_steps}
use Rattle.laws_sites.proofs.built.WellBuiltSets.{in_from_all}
use Rattle.model.specs.lists.Syntax.{Definition}
use Rattle.model.specs.lists.Names.{AreNumbersOf, IsDistinct}
use Rattle.model.specs.lists.TermTable.{term_names_met}
use Rattle.model.specs.lists.Elaborated.{TypedRules}
use Rattle.model.specs.rules.Program.{Program}
use Rattle.model.specs.sites.Sites.{Site, SiteSet}
use Rattle.model.specs.sites.Overlap.{HasDistinctPositions}
use Rattle.model.specs.sites.RuleSets.{IsBuilt}
use Rattle.model.specs.claims.Environments.{types_read, TypesRead, TypeEnvironment, IsReadAs, TermsShown, with_read_names, ShowsTerms, TermEnvironment, AreRulesOf, IsElaborated, IsRead, program_of}
use Rattle.model.specs.claims.Refusals.{Refusal}
use Rattle.model.specs.claims.Layers.{own_program, LoweredTerm, IsLoweredTerm, AreLowered, RefusedBy, by_types, by_rules, by_check}
use Rattle.model.proofs.Elements.{In}
use Rattle.model.proofs.Options.{options_one}
use Rattle.laws_sites.proofs.built.DistinctSites.{sites_stand_once_lem}
use Rattle.laws_sites.specs.ShadowLaws.{check_errors}
use Rattle.laws_sites.proofs.overlaps.MaskErrors.{check_errors_are_answered_lem}
use Rattle.laws_trees.specs.OneAnswer.{EachTwo, BecameSame, SameTermsShowSame, ReadingGivesOne, SerializingGivesOne, BuildingGivesOne, LoweringGivesOne, NoneIsAcceptedAndRefused, RefusingGivesOne}
use Rattle.laws_trees.proofs.OneTree.{best_trees_are_one_lem}
use Rattle.laws_trees.proofs.SameSets.{head_or, rest_of, built_sets_show_same_lem}
use Rattle.laws_trees.proofs.SameTrees.{best_trees_are_of_what_is_shown_lem}

-- 1. environments
numbers_found : (names : List (List ℕ)) (f g : List ℕ → Option ℕ) → AreNumbersOf names f → AreNumbersOf names g → (x : List ℕ) → f x ≡ g x
numbers_found names f g a b x = options_one (f x) (g x) (λ k e. b.numbered x k (a.named x k e)) (λ k e. a.numbered x k (b.named x k e))

environment_one : (e : TypesRead) (a b : TypeEnvironment) → IsReadAs a e → IsReadAs b e → a ≡ b
environment_one e a b x y =
    let names : a.names ≡ b.names = x.names ∙ sym y.names in
    let found : (text : List ℕ) → a.number_of text ≡ b.number_of text =
    numbers_found b.names a.number_of b.number_of (subst (λ l. AreNumbersOf l a.number_of) names x.inverse) y.inverse in
    let types : a.types ≡ b.types = x.types ∙ sym y.types in
    let looked_up : (k : ℕ) → a.type_of k ≡ b.type_of k = λ k. x.look_ups k ∙ sym (y.look_ups k) in
    let constants : (k : ℕ) → a.constant_type_of k ≡ b.constant_type_of k = λ k. x.constants k ∙ sym (y.constants k) in
    let errors : a.errors ≡ b.errors = x.no_errors ∙ sym y.no_errors in
    λ i. record {
      names = names i;
      number_of = λ text. found text i;
      types = types i;
      type_of = λ k. looked_up k i;
      constant_type_of = λ k. constants k i;
      errors = errors i;
    }

terms_one : (e : TypesRead) (defs : List Definition) (a b : TermsShown) → ShowsTerms e defs a → ShowsTerms e defs b → a ≡ b
terms_one e defs a b x y = grind (arith, common_steps)

term_environment_one : (e : TypesRead) (defs : List Definition) (expand : Bool) (rules : TypedRules) (a b : TermEnvironment) (c d : TypeEnvironment)
    → AreRulesOf e defs expand rules a c → AreRulesOf e defs expand rules b d → a ≡ b
term_environment_one e defs expand rules a b c d x y = grind (arith, common_steps, terms_one)

-- the same typed rules, from the same list
pub typed_one : (e : TypesRead) (defs : List Definition) (expand : Bool) (l k : TypedRules) → IsElaborated e defs expand l → IsElaborated e defs expand k → l ≡ k
typed_one e defs expand l k x y = same_Some l k (sym x.elaborate.typed ∙ y.elaborate.typed)

pub reading_gives_one_lem : ReadingGivesOne
reading_gives_one_lem = record {
  types = λ defs a b x y. environment_one (types_read defs) a b x.shown y.shown;
  terms = λ e defs s u a b x y. (terms_one e defs s u x.rows y.rows, environment_one (with_read_names e (term_names_met e.known defs)) a b x.types y.types);
  rules = λ e defs expand l k s u a b x y.
      (let same : l ≡ k = typed_one e defs expand l k x.elaborated y.elaborated in
      let z : AreRulesOf e defs expand l u b = subst (λ (r : TypedRules). AreRulesOf e defs expand r u b) (sym same) y in
      (same, term_environment_one e defs expand l s u a b x z, environment_one (with_read_names e l.names) a b x.types z.types));
}

-- 2. sets and trees, term by term
each_two : {X : Type 0} (key : X → ℕ) (R : X → X → Type 0) (P : X → Type 0) → ((x y : X) → key x ≡ key y → P x → P y → R x y)
    → (xs ys : List X) → map key xs ≡ map key ys → ((x : X) → In xs x → P x) → ((y : X) → In ys y → P y) → EachTwo R xs ys
each_two key R P h [] [] e f g = tt
each_two key R P h [] (y ∷ ys) e f g = (let n : 0 ≡ suc (length (map key ys)) = ap length e in absurd (omega (arith, n)))
each_two key R P h (x ∷ xs) [] e f g = (let n : suc (length (map key xs)) ≡ 0 = ap length e in absurd (omega (arith, n)))
each_two key R P h (x ∷ xs) (y ∷ ys) e f g = grind (arith, common_steps, each_two key R P h xs ys (ap rest_of e) (λ z i. f z (inr i)) (λ z i. g z (inr i)), head_or)

module _ (p : Program) where
  sets_one : (a b : ℕ × SiteSet) → a.0 ≡ b.0 → IsBuilt p a.0 a.1 → IsBuilt p b.0 b.1 → SameTermsShowSame a b
  sets_one a b e x y = (e, built_sets_show_same_lem p a.0 a.1 b.1 x (subst (λ t. IsBuilt p t b.1) (sym e) y))

  became_one : (a b : LoweredTerm) → a.term ≡ b.term → IsLoweredTerm p a → IsLoweredTerm p b → BecameSame a b
  became_one a b e x y =
      let built : IsBuilt p a.term b.set = subst (λ t. IsBuilt p t b.set) (sym e) y.built in
      record {
        term = e;
        set = built_sets_show_same_lem p a.term a.set b.set x.built built;
        tree =
            best_trees_are_one_lem a.set a.tree b.tree (sites_stand_once_lem p a.term a.set x.built) x.best
            (best_trees_are_of_what_is_shown_lem b.set a.set b.tree (built_sets_show_same_lem p a.term b.set a.set built x.built) y.best);
      }

pub serializing_gives_one_lem : SerializingGivesOne
serializing_gives_one_lem a b x y built same one other =
    best_trees_are_one_lem b x y
    (subst (λ (sites : List Site). IsDistinct sites) same.sites (sites_stand_once_lem (program_of built.types built.defs built.rules.rules) built.term a built.built))
    (best_trees_are_of_what_is_shown_lem a b x same one.best) other.best

pub building_gives_one_lem : BuildingGivesOne
building_gives_one_lem p sets others x y =
    each_two (λ s. s.0) SameTermsShowSame (λ s. IsBuilt p s.0 s.1) (sets_one p) sets others (x.terms ∙ sym y.terms)
    (in_from_all (λ s. IsBuilt p s.0 s.1) sets x.built) (in_from_all (λ s. IsBuilt p s.0 s.1) others y.built)

pub lowering_gives_one_lem : LoweringGivesOne
lowering_gives_one_lem defs expand types types' terms terms' rules rules' lowered lowered' x y =
    let read = reading_gives_one_lem.rules (types_read defs) defs expand rules rules' terms terms' types types' x.environments y.environments in
    let trees : AreLowered (own_program defs rules) lowered' = subst (λ (r : TypedRules). AreLowered (own_program defs r) lowered') (sym read.0) y.trees in
    let p = own_program defs rules in
    record {
      environment = read.2;
      term_environment = read.1;
      typed = read.0;
      became =
          each_two (λ l. l.term) BecameSame (IsLoweredTerm p) (became_one p) lowered lowered' (x.trees.each ∙ sym trees.each)
          (in_from_all (IsLoweredTerm p) lowered x.trees.lowered) (in_from_all (IsLoweredTerm p) lowered' trees.lowered);
    }

-- 3. refusals
typed_once : (defs : List Definition) (expand : Bool) (rules others : TypedRules) → IsRead defs expand rules → IsRead defs expand others → rules ≡ others
typed_once defs expand rules others x y = typed_one (types_read defs) defs expand rules others x.elaborated y.elaborated

pub none_is_accepted_and_refused_lem : NoneIsAcceptedAndRefused
none_is_accepted_and_refused_lem defs expand rules errors a refused = grind (arith, common_steps, typed_once)

refused_with : (defs : List Definition) (expand : Bool) (rules : TypedRules) → IsRead defs expand rules → HasDistinctPositions (own_program defs rules)
    → (errors : List Refusal) → RefusedBy defs expand errors → errors ≡ check_errors (own_program defs rules)
refused_with defs expand rules read distinct errors (by_types es r) = absurd (r.not_valid read.types)
refused_with defs expand rules read distinct errors (by_rules es valid r) = absurd (r.no_rules (rules, read.elaborated))
refused_with defs expand rules read distinct errors (by_check others reports also r) = grind (arith, common_steps, typed_once, check_errors_are_answered_lem)

pub refusing_gives_one_lem : RefusingGivesOne
refusing_gives_one_lem = grind (arith, common_steps, typed_once, refused_with)
