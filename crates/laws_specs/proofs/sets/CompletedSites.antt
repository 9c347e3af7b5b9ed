-- A valuation that leaves out fields, completed: each field is what its source stands for has there. What was there stays, and calls and
-- the answers that are picked are as they were.
use Rattle.std.proofs.Common.{◌≡◌, ℕ, suc, ◌==◌, true, Option, Some, None, slice_get, refl, sym, ap, subst, ◌∙◌, if◌then◌else◌, eqb-true, eq-eqb, arith}
use Rattle.std.proofs.lemmas.Grind.{common_steps}
use Rattle.std.proofs.lemmas.Bool.{cond-true, and_parts}
use Rattle.std.specs.Prelude.{IsTrue}
use Rattle.model.specs.sites.Sites.{Constraint, SiteTerm, extractor_call, constructor_call, pick_of, variant_field, struct_field, SiteTerms, no_site_term, site_term_and}
use Rattle.model.proofs.Elements.{some_is, none_some}
use Rattle.model.proofs.Options.{then_some}
use Rattle.laws_specs.specs.Words.{Denoted, variant_of, struct_of, DenotedList, denoted_and, denoted_list, is_formed, are_formed}
use Rattle.laws_specs.specs.Specs.{Specs}
use Rattle.laws_specs.specs.Conditions.{ToldContent, told, told_many, Valuation, denoted_at_each, is_of_parts, IsPartHeld, IsHeldAs, IsMetAs, is_told_formed, IsAnsweredAsSaid}

-- 1. fields
abbrev pub part_told : Option Denoted → Option ToldContent
part_told None = None
part_told (Some x) = Some (told x)

abbrev pub variant_part : ℕ → ℕ → Option ToldContent → Option ToldContent
variant_part variant i (Some (told (variant_of ty v xs))) = if v == variant then part_told (slice_get (denoted_list xs) i) else None
variant_part variant i _ = None

abbrev pub struct_part : ℕ → Option ToldContent → Option ToldContent
struct_part i (Some (told (struct_of ty xs))) = part_told (slice_get (denoted_list xs) i)
struct_part i _ = None

abbrev pub completed : Valuation → Valuation
completed f (variant_field s variant i) = variant_part variant i (completed f s)
completed f (struct_field s i) = struct_part i (completed f s)
completed f s = f s

pub variant_there : (ty variant : ℕ) (xs : DenotedList) (i : ℕ) → variant_part variant i (Some (told (variant_of ty variant xs))) ≡ part_told (slice_get (denoted_list xs) i)
variant_there ty variant xs i = cond-true (variant == variant) (part_told (slice_get (denoted_list xs) i)) None (eq-eqb variant variant refl)

variant_back : (variant i : ℕ) (o : Option ToldContent) (h : ToldContent) → variant_part variant i o ≡ Some h → (ty : ℕ) × (xs : DenotedList) × (o ≡ Some (told (variant_of ty variant xs))) × IsPartHeld xs i h
variant_back variant i o h e = grind (arith, common_steps, eqb-true, none_some)

struct_back : (i : ℕ) (o : Option ToldContent) (h : ToldContent) → struct_part i o ≡ Some h → (ty : ℕ) × (xs : DenotedList) × (o ≡ Some (told (struct_of ty xs))) × IsPartHeld xs i h
struct_back i o h e = grind (arith, common_steps, none_some)

-- 2. where more is there, what was there is as it was
module _ (f g : Valuation) (more : (s : SiteTerm) (h : ToldContent) → f s ≡ Some h → g s ≡ Some h) where
  pub each_more : (ss : SiteTerms) (xs : DenotedList) → denoted_at_each f ss ≡ Some xs → denoted_at_each g ss ≡ Some xs
  each_more no_site_term xs e = e
  each_more (site_term_and s ss) xs e = grind (arith, common_steps, each_more ss, then_some)

  pub met_more : (specs : Specs) (s : SiteTerm) (c : Constraint) → IsMetAs specs f s c → IsMetAs specs g s c
  met_more specs s c h = grind (arith, common_steps)

  held_more : (specs : Specs) (args : DenotedList) (s : SiteTerm) (h : ToldContent) → IsHeldAs specs args f s h → IsHeldAs specs args g s h
  held_more specs args s h a = grind (arith, common_steps, each_more)

-- 3. a valuation under which sites are held
part_formed : (xs : DenotedList) (i : ℕ) (x : Denoted) → are_formed xs ≡ true → slice_get (denoted_list xs) i ≡ Some x → is_formed x ≡ true
part_formed (denoted_and y xs) (suc i) x h e = part_formed xs i x (and_parts (is_formed y) (are_formed xs) h).1 e
part_formed xs i x h e = grind (arith, common_steps, none_some, some_is, and_parts)

module _ (specs : Specs) (args : DenotedList) (f : Valuation) (held : (s : SiteTerm) (h : ToldContent) → f s ≡ Some h → IsHeldAs specs args f s h) where
  -- what was there stays
  pub stays : (s : SiteTerm) (h : ToldContent) → f s ≡ Some h → completed f s ≡ Some h
  stays (variant_field s variant i) h e = grind (arith, common_steps, stays s, variant_there, held (variant_field s variant i) h e)
  stays (struct_field s i) h e = grind (arith, common_steps, stays s, held (struct_field s i) h e)
  stays s h e = grind (arith, common_steps)

  kept : (s : SiteTerm) (h : ToldContent) → f s ≡ Some h → IsHeldAs specs args (completed f) s h
  kept s h e = held_more f (completed f) stays specs args s h (held s h e)

  pub completed_held : (s : SiteTerm) (h : ToldContent) → completed f s ≡ Some h → IsHeldAs specs args (completed f) s h
  completed_held s h e = grind (arith, common_steps, variant_back, struct_back, kept)

  module _ (formed : (s : SiteTerm) (h : ToldContent) → f s ≡ Some h → IsTrue (is_told_formed h)) where
    part_is_formed : (xs : DenotedList) (i : ℕ) (h : ToldContent) → are_formed xs ≡ true → IsPartHeld xs i h → is_told_formed h ≡ true
    part_is_formed xs i h q a = ap is_told_formed a.held ∙ part_formed xs i a.part q a.there

    pub completed_formed : (s : SiteTerm) (h : ToldContent) → completed f s ≡ Some h → is_told_formed h ≡ true
    completed_formed (variant_field s variant i) h e =
        let a = variant_back variant i (completed f s) h e in part_is_formed a.1 i h (completed_formed s (told (variant_of a.0 variant a.1)) a.2) a.3
    completed_formed (struct_field s i) h e =
        let a = struct_back i (completed f s) h e in part_is_formed a.1 i h (completed_formed s (told (struct_of a.0 a.1)) a.2) a.3
    completed_formed s h e = grind (arith, common_steps)

  -- 4. calls are answered as they were
  pub calls_stay : (s : SiteTerm) → IsAnsweredAsSaid specs f s s → IsAnsweredAsSaid specs (completed f) s s
  calls_stay (extractor_call t s) said = λ x h e q.
      let a = held (extractor_call t s) h q in
      said x h (subst (λ y. f s ≡ Some (told y)) (sym (grind (arith, common_steps, some_is, stays))) a.1) q
  calls_stay (constructor_call t ss n) said = λ xs h e q.
      let a = held (constructor_call t ss n) h q in
      said xs h (subst (λ ys. denoted_at_each f ss ≡ Some ys) (sym (sym (some_is a.0 xs (sym (each_more f (completed f) stays ss a.0 a.1) ∙ e)))) a.1) q
  calls_stay s said = tt

  pub picks_stay : (s : SiteTerm) → IsAnsweredAsSaid specs f s (pick_of s) → IsAnsweredAsSaid specs (completed f) s (pick_of s)
  picks_stay (extractor_call t s) said = λ x h e q.
      let a = held (extractor_call t s) told_many (held (pick_of (extractor_call t s)) h q) in
      said x h (subst (λ y. f s ≡ Some (told y)) (sym (grind (arith, common_steps, some_is, stays))) a.1) q
  picks_stay (constructor_call t ss n) said = λ xs h e q.
      let a = held (constructor_call t ss n) told_many (held (pick_of (constructor_call t ss n)) h q) in
      said xs h (subst (λ ys. denoted_at_each f ss ≡ Some ys) (sym (sym (some_is a.0 xs (sym (each_more f (completed f) stays ss a.0 a.1) ∙ e)))) a.1) q
  picks_stay s said = tt

  -- 5. where parts are there that their sites have, nothing is added
  same_option : (o u : Option ToldContent) → ((h : ToldContent) → o ≡ Some h → u ≡ Some h) → ((h : ToldContent) → u ≡ Some h → o ≡ Some h) → o ≡ u
  same_option o u to from = grind (arith, common_steps)

  module _ (there : (s : SiteTerm) (h : ToldContent) → is_of_parts s ≡ true → IsHeldAs specs args f s h → f s ≡ Some h) where
    nothing_added : (s : SiteTerm) → completed f s ≡ f s
    nothing_added (variant_field s variant i) =
        same_option (completed f (variant_field s variant i)) (f (variant_field s variant i))
        (λ h e. let a = variant_back variant i (completed f s) h e in there (variant_field s variant i) h refl (a.0, a.1, sym (nothing_added s) ∙ a.2, a.3))
        (λ h e. stays (variant_field s variant i) h e)
    nothing_added (struct_field s i) =
        same_option (completed f (struct_field s i)) (f (struct_field s i))
        (λ h e. let a = struct_back i (completed f s) h e in there (struct_field s i) h refl (a.0, a.1, sym (nothing_added s) ∙ a.2, a.3))
        (λ h e. stays (struct_field s i) h e)
    nothing_added s = refl

    pub nothing_completed : completed f ≡ f
    nothing_completed = λ i s. nothing_added s i
