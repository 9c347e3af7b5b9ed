-- What holds as types say is what types say.
use Rattle.std.proofs.Common.{◌≡◌, ℕ, zero, suc, ◌<◌, ◌≤◌, ◌+◌, Bool, List, [], ◌∷◌, ◌++◌, length, Option, Some, None, option_map, slice_get, not, ◌&&◌, true, false, inl, inr, arith, refl, sym, ap, subst, ◌∙◌}
use Rattle.std.proofs.lemmas.Option.{slice_get-map, slice_get_cases, slice_get_past}
use Rattle.model.specs.lists.Tables.{TermEntry}
use Rattle.model.specs.rules.Program.{Program, arg_types, is_multi}
use Rattle.model.specs.sites.Serves.{term_args}
use Rattle.model.specs.trees.Trees.{Tree}
use Rattle.model.specs.sites.Sites.{Site, bool_site, int_site, prim_site, argument_site, extractor_site, constructor_site, iterator_site, make_variant_site, match_variant_site, make_struct_site, extract_struct_site, make_some_site, match_some_site, match_tuple_site, layer, layer_at, unfold_site, unfolded}
use Rattle.model_code.specs.Code.{variable}
use Rattle.model_code.specs.Flat.{flat}
use Rattle.model_code.specs.TreeCode.{place_of, tree_code}
use Rattle.model_code.specs.Modes.{BindingMode, a_value, mode_at, passes_of}
use Rattle.model_code.specs.SiteTypes.{are_copied, is_copied_at, is_held_by_reference, mode_of, types_at, types_of}
use Rattle.core_rule_sets.specs.declared.trie_again.Binding.{Binding}
use Rattle.core_rule_sets.specs.declared.trie_again.Binding.TheVariants as B
use Rattle.core_rule_sets.specs.SiteViews.{site_view, site_views}
use Rattle.rust_code.specs.declared.held.Held.{Held}
use Rattle.rust_code.specs.declared.types.Tables.{Tables}
use Rattle.rust_code.specs.HeldPasses.{Hold, HoldsAs, passes_by}
use Rattle.rust_code.specs.HeldViews.{hold_at, hold_in, hold_view}
use Rattle.rust_code.specs.SeenTypes.{AreTablesOf, OfTables, arguments_in, program_in}
use Rattle.rust_code.specs.SiteHolds.{hold_of, term_hold}
use Rattle.rust_code.specs.Labels.{is_deep}
use Rattle.rust_code.proofs.HeldPasses.{passes_same}

module _ (p : Program) (args : List ℕ) (sites : List Site) where
  abbrev held_as : ℕ → Option Site → BindingMode
  held_as s o = mode_of (is_held_by_reference p args (layer_at (unfolded s sites) o))

  bound_as : (s : ℕ) (o : Option Site) → slice_get sites s ≡ o → mode_at (types_of p args sites) (variable s) ≡ held_as s o
  bound_as s o e = ap (held_as s) e

  mode_is : (s : ℕ) (o : Option Site) → slice_get sites s ≡ o → mode_at (types_of p args sites) (place_of o s) ≡ held_as s o
  mode_is s None e = bound_as s None e
  mode_is s (Some (bool_site b ty)) e = bound_as s (Some (bool_site b ty)) e
  mode_is s (Some (int_site z ty)) e = refl
  mode_is s (Some (prim_site name)) e = refl
  mode_is s (Some (argument_site i)) e = refl
  mode_is s (Some (extractor_site term source)) e = bound_as s (Some (extractor_site term source)) e
  mode_is s (Some (constructor_site term sources instance)) e = bound_as s (Some (constructor_site term sources instance)) e
  mode_is s (Some (iterator_site source)) e = bound_as s (Some (iterator_site source)) e
  mode_is s (Some (make_variant_site ty variant [])) e = refl
  mode_is s (Some (make_variant_site ty variant (f ∷ fs))) e = bound_as s (Some (make_variant_site ty variant (f ∷ fs))) e
  mode_is s (Some (match_variant_site source variant field)) e = bound_as s (Some (match_variant_site source variant field)) e
  mode_is s (Some (make_struct_site ty [])) e = refl
  mode_is s (Some (make_struct_site ty (f ∷ fs))) e = bound_as s (Some (make_struct_site ty (f ∷ fs))) e
  mode_is s (Some (extract_struct_site source field)) e = bound_as s (Some (extract_struct_site source field)) e
  mode_is s (Some (make_some_site source)) e = bound_as s (Some (make_some_site source)) e
  mode_is s (Some (match_some_site source)) e = bound_as s (Some (match_some_site source)) e
  mode_is s (Some (match_tuple_site source field)) e = refl

  pub holds_as_types : (h : ℕ → Hold) → ((s : ℕ) → h s ≡ hold_of p args sites s) → HoldsAs (types_of p args sites) sites h
  holds_as_types h e = record {
    variables = λ s. ap (λ x. x.mode) (e s);
    places = λ s. ap (λ x. x.mode) (e s) ∙ sym (mode_is s (slice_get sites s) refl);
    copies = λ s. ap (λ x. x.copied) (e s);
  }

-- a site that stands for this
module _ (p : Program) (args : List ℕ) (sites : List Site) (s : ℕ) where
  pub held_is : (o : Site) (r k : Bool) → slice_get sites s ≡ Some o → r ≡ is_held_by_reference p args (layer (unfolded s sites) o) → k ≡ is_copied_at p args sites (place_of (Some o) s)
      → record { mode = mode_of r; copied = k } ≡ hold_of p args sites s
  held_is o r k at reference copied =
      ap (λ b. record { mode = mode_of b; copied = k }) reference
      ∙ ap (λ c. record { mode = mode_of (is_held_by_reference p args (layer (unfolded s sites) o)); copied = c }) copied
      ∙ ap (λ x. record { mode = mode_of (is_held_by_reference p args (layer_at (unfolded s sites) x)); copied = is_copied_at p args sites (place_of x s) }) (sym at)

  pub place_copied : (b : Binding) (tys : List ℕ) → slice_get sites s ≡ Some (site_view b) → ((source field : ℕ) → b ≡ B.MatchTuple source field → ⊥)
      → tys ≡ types_at p args (layer (unfolded s sites) (site_view b)) → are_copied p tys ≡ is_copied_at p args sites (place_of (Some (site_view b)) s)
  place_copied b tys at other is = by_form b at other (ap (are_copied p) is)
    where
      bound : (b : Binding) → slice_get sites s ≡ Some (site_view b) → are_copied p tys ≡ are_copied p (types_at p args (layer (unfolded s sites) (site_view b)))
          → are_copied p tys ≡ are_copied p (types_at p args (unfold_site sites s))
      bound b at copied = copied ∙ ap (λ x. are_copied p (types_at p args (layer_at (unfolded s sites) x))) (sym at)

      made_variant : (ty variant : ℕ) (fields : List ℕ) → are_copied p tys ≡ are_copied p (types_at p args (unfold_site sites s)) → are_copied p tys ≡ are_copied p (ty ∷ [])
          → are_copied p tys ≡ is_copied_at p args sites (place_of (Some (make_variant_site ty variant fields)) s)
      made_variant ty variant [] as_bound written = written
      made_variant ty variant (f ∷ fields) as_bound written = as_bound

      made_struct : (ty : ℕ) (fields : List ℕ) → are_copied p tys ≡ are_copied p (types_at p args (unfold_site sites s)) → are_copied p tys ≡ are_copied p (ty ∷ [])
          → are_copied p tys ≡ is_copied_at p args sites (place_of (Some (make_struct_site ty fields)) s)
      made_struct ty [] as_bound written = written
      made_struct ty (f ∷ fields) as_bound written = as_bound

      by_form : (b : Binding) → slice_get sites s ≡ Some (site_view b) → ((source field : ℕ) → b ≡ B.MatchTuple source field → ⊥)
          → are_copied p tys ≡ are_copied p (types_at p args (layer (unfolded s sites) (site_view b))) → are_copied p tys ≡ is_copied_at p args sites (place_of (Some (site_view b)) s)
      by_form (B.ConstBool val ty) at other copied = bound (B.ConstBool val ty) at copied
      by_form (B.ConstInt val ty) at other copied = copied
      by_form (B.ConstPrim val) at other copied = copied
      by_form (B.Argument index) at other copied = copied
      by_form (B.Extractor term source) at other copied = bound (B.Extractor term source) at copied
      by_form (B.Constructor term parameters instance) at other copied = bound (B.Constructor term parameters instance) at copied
      by_form (B.Iterator source) at other copied = bound (B.Iterator source) at copied
      by_form (B.MakeVariant ty variant fields) at other copied = made_variant ty.0 variant.0 fields.items (bound (B.MakeVariant ty variant fields) at copied) copied
      by_form (B.MatchVariant source variant field) at other copied = bound (B.MatchVariant source variant field) at copied
      by_form (B.MakeStruct ty fields) at other copied = made_struct ty.0 fields.items (bound (B.MakeStruct ty fields) at copied) copied
      by_form (B.ExtractStruct source field) at other copied = bound (B.ExtractStruct source field) at copied
      by_form (B.MakeSome inner) at other copied = bound (B.MakeSome inner) at copied
      by_form (B.MatchSome source) at other copied = bound (B.MatchSome source) at copied
      by_form (B.MatchTuple source field) at other copied = absurd (other source field refl)

-- a call that is held by reference, or not
pub one_answer : (many one held : Bool) → many ≡ false → held ≡ one → held ≡ (not many && one)
one_answer many one held e is = is ∙ ap (λ m. not m && one) (sym e)

pub many_answers : (many one : Bool) → many ≡ true → not many ≡ (not many && one)
many_answers many one e = ap not e ∙ ap (λ m. not m && one) (sym e)

-- what holds of each program of tables by their own words
pub of_tables : (tables : Tables) (P : Program → Type 0) → OfTables tables P → (p : Program) → AreTablesOf tables.tyenv.now tables.terms.now p → P p
of_tables tables P holds p are =
    let by_types : (types : _) → Program = λ types. record { types = types; constants = p.constants; terms = (program_in tables p.constants p.rules).terms; rules = p.rules } in
    let by_terms : (terms : _) → Program = λ terms. record { types = p.types; constants = p.constants; terms = terms; rules = p.rules } in
    subst P (ap by_types (sym are.types) ∙ ap by_terms (sym are.terms)) (holds p.constants p.rules are.constants)

arguments_are : (o : Option TermEntry) → term_args o ≡ elim o [ None ↦ [] | Some e ↦ e.arg_tys ]
arguments_are None = refl
arguments_are (Some e) = refl

-- one site after another
held_more : (held : List Held) (x : Held) (f : ℕ → Hold) → ((s : ℕ) → s < length held → hold_in held s ≡ f s) → hold_view x ≡ f (length held)
    → (s : ℕ) → s < suc (length held) → hold_in (held ++ x ∷ []) s ≡ f s
held_more [] x f before is zero h = is
held_more [] x f before is (suc s) h = absurd (omega (arith, h))
held_more (y ∷ held) x f before is zero h = before zero (omega arith)
held_more (y ∷ held) x f before is (suc s) h = held_more held x (λ k. f (suc k)) (λ k b. before (suc k) (omega (arith, b))) is s (omega (arith, h))

length_pushed : (held : List Held) (x : Held) → length (held ++ x ∷ []) ≡ suc (length held)
length_pushed [] x = refl
length_pushed (y ∷ held) x = ap suc (length_pushed held x)

module _ (held new : List Held) (x : Held) (number : ℕ) (count : length held ≡ number) (is : new ≡ held ++ x ∷ []) where
  longer : length new ≡ suc (length held)
  longer = ap length is ∙ length_pushed held x

  pub count_pushed : length new ≡ number + 1
  count_pushed = let l = longer in omega (arith, l, count)

  pub held_pushed : (tables : Tables) → OfTables tables (λ p. hold_view x ≡ hold_of p (arguments_in tables) (site_views tables.sites.now) number)
      → OfTables tables (λ p. (s : ℕ) → s < length held → hold_in held s ≡ hold_of p (arguments_in tables) (site_views tables.sites.now) s)
      → OfTables tables (λ p. (s : ℕ) → s < length new → hold_in new s ≡ hold_of p (arguments_in tables) (site_views tables.sites.now) s)
  held_pushed tables here before constants rules are s b =
      let f = hold_of (program_in tables constants rules) (arguments_in tables) (site_views tables.sites.now) in
      ap (λ l. hold_in l s) is ∙ held_more held x f (before constants rules are) (here constants rules are ∙ ap f (sym count)) s (subst (λ n. s < n) longer b)

-- past the last site
held_past : (p : Program) (args : List ℕ) (sites : List Site) (s : ℕ) → slice_get sites s ≡ None → record { mode = a_value; copied = true } ≡ hold_of p args sites s
held_past p args sites s none =
    let none_there = sym none in
    ap (λ o. record { mode = a_value; copied = are_copied p (types_at p args (layer_at (unfolded s sites) o)) }) none_there
    ∙ ap (λ o. record { mode = mode_of (is_held_by_reference p args (layer_at (unfolded s sites) o)); copied = is_copied_at p args sites (place_of o s) }) none_there

-- all sites
pub held_whole : (tables : Tables) (held : List Held) → length held ≡ length tables.sites.now
    → OfTables tables (λ p. (s : ℕ) → s < length held → hold_in held s ≡ hold_of p (arguments_in tables) (site_views tables.sites.now) s)
    → (p : Program) → AreTablesOf tables.tyenv.now tables.terms.now p → (s : ℕ) → hold_in held s ≡ term_hold p tables.term.0 (site_views tables.sites.now) s
held_whole tables held count made p are s =
    let bs = tables.sites.now in
    let sites = site_views bs in
    let args = arguments_in tables in
    let same : args ≡ arg_types p tables.term.0 = ap (λ ts. term_args (slice_get ts tables.term.0)) (sym are.terms) ∙ arguments_are (slice_get p.terms tables.term.0) in
    let there = of_tables tables (λ q. (k : ℕ) → k < length held → hold_in held k ≡ hold_of q args sites k) made p are in
    let here : hold_in held s ≡ hold_of p args sites s = elim (slice_get_cases held s).1 [
      | inl w ↦ there s w.1
      | inr w ↦ ap hold_at w.1 ∙ held_past p args sites s (slice_get-map site_view bs s ∙ ap (option_map site_view) (slice_get_past bs s (subst (λ n. n ≤ s) count w.0)))
    ] in
    here ∙ ap (λ a. hold_of p a sites s) same

-- the code by what is held is the code by types
pub code_by_held : (p : Program) (t : ℕ) (sites : List Site) (h : ℕ → Hold) (multi : Bool) (tree : Tree) → ((s : ℕ) → h s ≡ term_hold p t sites s) → multi ≡ is_multi p t
    → flat (tree_code tree sites (passes_by h multi sites)) is_deep 0 ≡ flat (tree_code tree sites (passes_of (types_of p (arg_types p t) sites) (is_multi p t) sites)) is_deep 0
code_by_held p t sites h multi tree holds same =
    let types = types_of p (arg_types p t) sites in
    ap (λ q. flat (tree_code tree sites q) is_deep 0) (passes_same types sites h (holds_as_types p (arg_types p t) sites h holds) multi)
    ∙ ap (λ m. flat (tree_code tree sites (passes_of types m sites)) is_deep 0) same
