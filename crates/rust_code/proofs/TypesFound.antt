-- Types that are found at a place of a list, or not.
use Rattle.std.proofs.Common.{◌≡◌, ℕ, ◌<◌, ◌≤◌, not, List, [], ◌∷◌, Some, None, length, get_or, map, option_map, slice_get, refl, sym, ap, subst, ◌∙◌}
use Rattle.std.specs.List.{list_all}
use Rattle.std.proofs.lemmas.List.Folds.{list_all-map}
use Rattle.std.proofs.lemmas.Option.{slice_get-map, slice_get_past, slice_get_read}
use Rattle.model.specs.rules.Program.{Program}
use Rattle.model.specs.sites.Serves.{term_args}
use Rattle.model.specs.sites.Sites.{layer, unfolded}
use Rattle.model_code.specs.SiteTypes.{one_type, types_at}
use Rattle.core_types.specs.declared.ids.TypeId.{TypeId}
use Rattle.core_types.specs.declared.type_env.TypeEnv.{TypeEnv}
use Rattle.core_terms.specs.declared.term.Term.{Term}
use Rattle.core_terms.specs.TermViews.{term_view, term_views}
use Rattle.core_rule_sets.specs.declared.trie_again.Binding.{Binding}
use Rattle.core_rule_sets.specs.SiteViews.{site_view, site_views}
use Rattle.rust_code.specs.declared.types.Tables.{Tables}
use Rattle.rust_code.specs.SeenTypes.{arguments_in, are_without_parts, has_parts}

pub without_parts : (tyenv : TypeEnv) (tys : List TypeId) → are_without_parts tyenv (map (λ ty. ty.0) tys) ≡ list_all (λ ty. not (has_parts tyenv ty.0)) tys
without_parts tyenv tys = list_all-map (λ ty. not (has_parts tyenv ty)) (λ ty. ty.0) tys

module _ {X : Type 0} (xs : List X) (place i : ℕ) (number : i ≡ place) where
  found : (x : X) → i < length xs → x ≡ get_or xs i x → slice_get xs place ≡ Some x
  found x h at = ap (slice_get xs) (sym number) ∙ slice_get_read xs (length xs) i x refl h at

  missing : length xs ≤ i → slice_get xs place ≡ None
  missing h = slice_get_past xs place (subst (λ k. length xs ≤ k) number h)

  pub type_found : (ty : X → ℕ) (x : X) → i < length xs → x ≡ get_or xs i x → one_type (slice_get (map ty xs) place) ≡ ty x ∷ []
  type_found ty x h at = ap one_type (slice_get-map ty xs place ∙ ap (option_map ty) (found x h at))

  pub type_missing : (ty : X → ℕ) → length xs ≤ i → one_type (slice_get (map ty xs) place) ≡ []
  type_missing ty h = ap one_type (slice_get-map ty xs place ∙ ap (option_map ty) (missing h))

  pub field_found : {Y : Type 0} (view : X → Y) (ty : Y → ℕ) (x : X) → i < length xs → x ≡ get_or xs i x → one_type (slice_get (map ty (map view xs)) place) ≡ ty (view x) ∷ []
  field_found view ty x h at = ap one_type (slice_get-map ty (map view xs) place ∙ ap (option_map ty) (slice_get-map view xs place ∙ ap (option_map view) (found x h at)))

  pub field_missing : {Y : Type 0} (view : X → Y) (ty : Y → ℕ) → length xs ≤ i → one_type (slice_get (map ty (map view xs)) place) ≡ []
  field_missing view ty h = ap one_type (slice_get-map ty (map view xs) place ∙ ap (option_map ty) (slice_get-map view xs place ∙ ap (option_map view) (missing h)))

-- the types of a site that stands for this
abbrev pub types_seen : Tables → Program → ℕ → Binding → List ℕ
types_seen tables p layers b = types_at p (arguments_in tables) (layer (unfolded layers (site_views tables.sites.now)) (site_view b))

-- the types of the arguments of a term that is there
module _ (terms : List Term) (place i : ℕ) (number : i ≡ place) where
  pub arguments_found : (e : Term) → i < length terms → e ≡ get_or terms i e → term_args (slice_get (term_views terms) place) ≡ map (λ ty. ty.0) e.arg_tys.items
  arguments_found e h at = ap term_args (slice_get-map term_view terms place ∙ ap (option_map term_view) (found terms place i number e h at))

  pub arguments_missing : length terms ≤ i → term_args (slice_get (term_views terms) place) ≡ []
  arguments_missing h = ap term_args (slice_get-map term_view terms place ∙ ap (option_map term_view) (missing terms place i number h))
