-- The tests of site terms and of constraints are exact.
use Rattle.std.proofs.Common.{◌≡◌, ◌==◌, ℕ, Bool, true, ◌&&◌, refl, sym, ap, ap₂, ◌∙◌, eqb-true, eq-eqb, ◌⊎◌, inl, inr, arith}
use Rattle.std.proofs.lemmas.Grind.{common_steps}
use Rattle.std.proofs.lemmas.Bool.{and_parts, and_from, false≢true, cases_Bool}
use Rattle.std.proofs.lemmas.Bool.Decides.{Decides-int_eq}
use Rattle.std.proofs.Math.Bool.{beq}
use Rattle.model.specs.sites.Sites.{Constraint, SiteTerm, extractor_call, constructor_call, pick_of, variant_made, variant_field, struct_made, struct_field, some_made, some_part, tuple_part, SiteTerms, no_site_term, site_term_and}
use Rattle.model.specs.visits.Demands.{site_term_eq, site_terms_eq, constraint_eq}

pub beq_means : (a b : Bool) → beq a b ≡ true → a ≡ b
beq_means a b h = grind (arith, common_steps)

pub beq_same : (a : Bool) → beq a a ≡ true
beq_same a = grind (arith, common_steps)

-- two numbers and a rest
pub parts_mean : (a b c d : ℕ) (rest : Bool) → (((a == b) && (c == d)) && rest) ≡ true → (a ≡ b) × (c ≡ d) × (rest ≡ true)
parts_mean a b c d rest h = grind (arith, common_steps, and_parts ((a == b) && (c == d)) rest h, and_parts (a == b) (c == d), eqb-true a b, eqb-true c d, and_parts, eqb-true)

pub number_same : (n : ℕ) → (n == n) ≡ true
number_same n = eq-eqb n n refl

mutual
  pub term_means : (a b : SiteTerm) → site_term_eq a b ≡ true → a ≡ b
  term_means (extractor_call t a) (extractor_call u b) h = grind (arith, common_steps, term_means a b, and_parts, ap₂, eqb-true)
  term_means (constructor_call t xs i) (constructor_call u ys j) h = grind (arith, common_steps, terms_mean xs ys, and_parts, eqb-true)
  term_means (pick_of a) (pick_of b) h = grind (arith, common_steps, term_means a b h)
  term_means (variant_made s i xs) (variant_made t j ys) h = grind (arith, common_steps, terms_mean xs ys, parts_mean)
  term_means (variant_field a i f) (variant_field b j g) h = grind (arith, common_steps, term_means a b, and_parts, eqb-true)
  term_means (struct_made s xs) (struct_made t ys) h = grind (arith, common_steps, terms_mean xs ys, and_parts, ap₂, eqb-true)
  term_means (struct_field a f) (struct_field b g) h = grind (arith, common_steps, term_means a b, and_parts, ap₂, eqb-true)
  term_means (some_made a) (some_made b) h = grind (arith, common_steps, term_means a b h)
  term_means (some_part a) (some_part b) h = grind (arith, common_steps, term_means a b h)
  term_means (tuple_part a f) (tuple_part b g) h = grind (arith, common_steps, term_means a b, and_parts, ap₂, eqb-true)
  term_means a b h = grind (arith, common_steps, and_parts, ap₂, beq_means, eqb-true, Decides-int_eq)

  pub terms_mean : (a b : SiteTerms) → site_terms_eq a b ≡ true → a ≡ b
  terms_mean (site_term_and a xs) (site_term_and b ys) h = grind (arith, common_steps, term_means a b, terms_mean xs ys, and_parts, ap₂)
  terms_mean a b h = grind (arith, common_steps)

mutual
  pub term_same : (s : SiteTerm) → site_term_eq s s ≡ true
  term_same (extractor_call t a) = grind (arith, common_steps, term_same a, and_from, number_same)
  term_same (constructor_call t xs i) = grind (arith, common_steps, terms_same xs, and_from, number_same)
  term_same (pick_of a) = grind (arith, common_steps, term_same a)
  term_same (variant_made s i xs) = grind (arith, common_steps, terms_same xs, and_from, number_same)
  term_same (variant_field a i f) = grind (arith, common_steps, term_same a, and_from, number_same)
  term_same (struct_made s xs) = grind (arith, common_steps, terms_same xs, and_from, number_same)
  term_same (struct_field a f) = grind (arith, common_steps, term_same a, and_from, number_same)
  term_same (some_made a) = grind (arith, common_steps, term_same a)
  term_same (some_part a) = grind (arith, common_steps, term_same a)
  term_same (tuple_part a f) = grind (arith, common_steps, term_same a, and_from, number_same)
  term_same s = grind (arith, common_steps, and_from, beq_same, number_same, Decides-int_eq)

  pub terms_same : (xs : SiteTerms) → site_terms_eq xs xs ≡ true
  terms_same no_site_term = refl
  terms_same (site_term_and a xs) = and_from (site_term_eq a a) (site_terms_eq xs xs) (term_same a) (terms_same xs)

pub same_term : (a b : SiteTerm) → a ≡ b → site_term_eq a b ≡ true
same_term a b e = ap (site_term_eq a) (sym e) ∙ term_same a

pub constraint_means : (a b : Constraint) → constraint_eq a b ≡ true → a ≡ b
constraint_means a b h = grind (arith, common_steps, parts_mean, eqb-true, and_parts, ap₂, beq_means, Decides-int_eq)

pub constraint_same : (c : Constraint) → constraint_eq c c ≡ true
constraint_same c = grind (arith, common_steps, and_from, number_same, beq_same, Decides-int_eq)

pub same_constraint : (a b : Constraint) → a ≡ b → constraint_eq a b ≡ true
same_constraint a b e = ap (constraint_eq a) (sym e) ∙ constraint_same a

-- two sites, and two constraints, are one or two
pub term_cases : (a b : SiteTerm) → (a ≡ b) ⊎ (a ≡ b → ⊥)
term_cases a b =
    elim (cases_Bool (site_term_eq a b)) [
      | inl t ↦ inl (term_means a b t)
      | inr f ↦ inr (λ e. false≢true (sym f ∙ same_term a b e))
    ]

pub constraint_cases : (a b : Constraint) → (a ≡ b) ⊎ (a ≡ b → ⊥)
constraint_cases a b = grind (arith, common_steps, constraint_means a b, same_constraint a b, constraint_means, same_constraint)
