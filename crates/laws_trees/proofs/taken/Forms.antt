-- What sites hold by their form: one value, or what a call answers. Each site that the visit of a rule makes that hangs together
-- has a form, and the sites that it equates are values.
use Rattle.std.proofs.Common.{◌≡◌, ℕ, zero, suc, ◌<◌, Bool, true, false, not, List, length, Some, slice_get, refl, ap, subst}
use Rattle.std.proofs.lemmas.Option.{slice_get_within}
use Rattle.model.specs.lists.Tables.{Flags, TermEntry}
use Rattle.model.specs.lists.Ranges.{is_literal_of}
use Rattle.model.specs.rules.Values.{variant_types, struct_types}
use Rattle.model.specs.rules.Program.{Program, a_call, kind, arg_types}
use Rattle.model.specs.rules.Typed.{TypedRule}
use Rattle.model.specs.sites.Sites.{SiteTerm, bool_term, int_term, prim_term, argument, extractor_call, constructor_call, pick_of, variant_made, variant_field, struct_made, struct_field, some_made, some_part, tuple_part, no_site, SiteTerms, no_site_term, site_term_and}
use Rattle.model.specs.visits.Demands.{Demands, demands_of}
use Rattle.model.specs.lists.Formed.{is_formed_rule}
use Rattle.model.proofs.Elements.{In, contains_from_in}
use Rattle.laws_typing.specs.WellTypedPrograms.{IsWellTypedProgram}
use Rattle.laws_sites.specs.RuleUses.{matched_in, called_in}
use Rattle.laws_trees.proofs.total.Shaped.{Uses, Shaped, shaped_bool, shaped_int, shaped_prim, shaped_argument, shaped_extractor, shaped_pure, shaped_impure, shaped_pick, shaped_variant, shaped_variant_field, shaped_struct, shaped_struct_field, shaped_some, shaped_part, shaped_tuple, ShapedAll, shaped_none, shaped_and}
use Rattle.laws_trees.proofs.total.ShapedSites.{rule_shaped}

-- 1. forms
-- the answers of a multi call, what may be nothing, or so many outputs: one of them is a value
pub record Form : Type 0 where
  pub multi : Bool
  pub optional : Bool
  pub count : ℕ

abbrev pub form : Bool → Bool → ℕ → Form
form multi optional count = record { multi = multi; optional = optional; count = count }

abbrev pub a_value : Form
a_value = form false false 1

-- a term that can be called
pub record IsCall (p : Program) (t : ℕ) : Type 0 where
  pub entry : TermEntry
  pub flags : Flags
  pub infallible : Bool
  pub there : slice_get p.terms t ≡ Some entry
  pub call : kind p t ≡ a_call flags infallible

abbrev pub term_count : SiteTerms → ℕ
term_count no_site_term = 0
term_count (site_term_and s ss) = suc (term_count ss)

-- a site of a term with n arguments has a form, and a literal is one of its type
abbrev mutual
  pub IsOfForm : Program → ℕ → SiteTerm → Form → Type 0
  IsOfForm p n (bool_term b ty) q = q ≡ a_value
  IsOfForm p n (int_term z ty) q = (is_literal_of (slice_get p.types ty) z ≡ true) × (q ≡ a_value)
  IsOfForm p n (prim_term name) q = q ≡ a_value
  IsOfForm p n (argument i) q = (i < n) × (q ≡ a_value)
  IsOfForm p n (extractor_call t s) q = (c : IsCall p t) × IsOfForm p n s a_value × (q ≡ form c.flags.multi (not c.infallible) (length c.entry.arg_tys))
  IsOfForm p n (constructor_call t ss i) q = (c : IsCall p t) × AreValues p n ss × (q ≡ form c.flags.multi c.flags.partial 1)
  IsOfForm p n (pick_of s) q = (o : Bool) × (k : ℕ) × IsOfForm p n s (form true o k) × (q ≡ form false false k)
  IsOfForm p n (variant_made ty i ss) q = (tys : List ℕ) × (variant_types (slice_get p.types ty) i ≡ Some tys) × (term_count ss ≡ length tys) × AreValues p n ss × (q ≡ a_value)
  IsOfForm p n (variant_field s i f) q = IsOfForm p n s a_value × (q ≡ a_value)
  IsOfForm p n (struct_made ty ss) q = (tys : List ℕ) × (struct_types (slice_get p.types ty) ≡ Some tys) × (term_count ss ≡ length tys) × AreValues p n ss × (q ≡ a_value)
  IsOfForm p n (struct_field s f) q = IsOfForm p n s a_value × (q ≡ a_value)
  IsOfForm p n (some_made s) q = (k : ℕ) × IsOfForm p n s (form false false k) × (q ≡ form false true k)
  IsOfForm p n (some_part s) q = (k : ℕ) × IsOfForm p n s (form false true k) × (q ≡ form false false k)
  IsOfForm p n (tuple_part s f) q = (k : ℕ) × IsOfForm p n s (form false false (suc (suc k))) × (f < suc (suc k)) × (q ≡ a_value)
  IsOfForm p n no_site q = ⊥

  pub AreValues : Program → ℕ → SiteTerms → Type 0
  AreValues p n no_site_term = Unit {0}
  AreValues p n (site_term_and s ss) = IsOfForm p n s a_value × AreValues p n ss

abbrev pub IsValue : Program → ℕ → SiteTerm → Type 0
IsValue p n s = IsOfForm p n s a_value

abbrev pub HasSomeForm : Program → ℕ → SiteTerm → Type 0
HasSomeForm p n s = (q : Form) × IsOfForm p n s q

-- the sites that demands make have forms, and those that they equate are values
pub record AreKnown (p : Program) (n : ℕ) (d : Demands) : Type 0 where
  pub made : (u : SiteTerm) → In d.made u → HasSomeForm p n u
  pub equal : (e : SiteTerm × SiteTerm) → In d.equalities e → IsValue p n e.0 × IsValue p n e.1

-- 2. a shape gives a form
module _ (p : Program) (uses : Uses) where
  abbrev n : ℕ
  n = length uses.args

  mutual
    shaped_form : {multi optional : Bool} {tys : List ℕ} (s : SiteTerm) → Shaped p uses s multi optional tys → IsOfForm p n s (form multi optional (length tys))
    shaped_form (bool_term b ty) (shaped_bool t) = refl
    shaped_form (int_term z ty) (shaped_int t) = (t, refl)
    shaped_form (prim_term name) (shaped_prim used t) = refl
    shaped_form (argument i) (shaped_argument {ty = ty} t) = (slice_get_within uses.args i ty t, refl)
    shaped_form (extractor_call t s) (shaped_extractor e flags infallible used there can k h) = (record { entry = e; flags = flags; infallible = infallible; there = there; call = k }, shaped_form s h, refl)
    shaped_form (constructor_call t ss zero) (shaped_pure e flags infallible used there can k pure h) = (record { entry = e; flags = flags; infallible = infallible; there = there; call = k }, (shaped_values ss h).0, refl)
    shaped_form (constructor_call t ss (suc before)) (shaped_impure e flags infallible used there can k pure h) = (record { entry = e; flags = flags; infallible = infallible; there = there; call = k }, (shaped_values ss h).0, refl)
    shaped_form (pick_of s) (shaped_pick {optional = optional} {tys = tys} h) = (optional, length tys, shaped_form s h, refl)
    shaped_form (variant_made ty variant ss) (shaped_variant {tys = tys} t h) = let r = shaped_values ss h in (tys, t, r.1, r.0, refl)
    shaped_form (variant_field s variant i) (shaped_variant_field h t a) = (shaped_form s h, refl)
    shaped_form (struct_made ty ss) (shaped_struct {tys = tys} t h) = let r = shaped_values ss h in (tys, t, r.1, r.0, refl)
    shaped_form (struct_field s i) (shaped_struct_field h t a) = (shaped_form s h, refl)
    shaped_form (some_made s) (shaped_some {tys = tys} h) = (length tys, shaped_form s h, refl)
    shaped_form (some_part s) (shaped_part {tys = tys} h) = (length tys, shaped_form s h, refl)
    shaped_form (tuple_part s i) (shaped_tuple {u = u} {tys = tys} k l h a) = (k, subst (λ m. IsOfForm p n s (form false false m)) l (shaped_form s h), subst (λ m. i < m) l (slice_get_within tys i u a), refl)
    shaped_form no_site h = elim h [ ]

    shaped_values : {tys : List ℕ} (ss : SiteTerms) → ShapedAll p uses ss tys → AreValues p n ss × (term_count ss ≡ length tys)
    shaped_values no_site_term shaped_none = (tt, refl)
    shaped_values (site_term_and s ss) (shaped_and h hs) = let r = shaped_values ss hs in ((shaped_form s h, r.0), ap suc r.1)

-- 3. rules
-- what a rule uses
abbrev uses_of : Program → TypedRule → Uses
uses_of p r = record { args = arg_types p r.root_term; matched = matched_in r; called = called_in r }

pub rule_known : (p : Program) (n : ℕ) → IsWellTypedProgram p → (r : TypedRule) → is_formed_rule p r ≡ true → length (arg_types p r.root_term) ≡ n → AreKnown p n (demands_of p r)
rule_known p n well r f e =
    let uses = uses_of p r in
    let s = rule_shaped p uses well r f (λ t i. contains_from_in (matched_in r) t i) (λ t i. contains_from_in (called_in r) t i) refl in
    subst (λ m. AreKnown p m (demands_of p r)) e (record {
      made = λ u i. let h = s.0 u i in (form h.multi h.optional (length h.tys), shaped_form p uses u h.shaped);
      equal = λ x i. let h = s.2 x i in (shaped_form p uses x.0 h.1, shaped_form p uses x.1 h.2);
    })
