-- The tables that the terms of a list were read into are those that its rules are typed by.
use Rattle.std.proofs.Common.{◌≡◌, ◌==◌, ℕ, ◌+◌, ◌<◌, true, cond, List, [], ◌∷◌, ◌++◌, length, map, All, Contains, Option, Some, slice_get, refl, sym, ap, subst, ◌∙◌, inl, inr, eqb-true, arith}
use Rattle.std.specs.List.{cons_option, enumerate_from, filter_map, flat_map, position_from}
use Rattle.std.proofs.lemmas.Bool.{cases_Bool, cond-false}
use Rattle.std.proofs.lemmas.List.Elements.{All-nil, All-cons, All-head, All-tail, All-append, All-contains, All-weaker}
use Rattle.std.proofs.lemmas.Option.{none-some, slice_get_within}
use Rattle.std.proofs.lemmas.Grind.{common_steps}
use Rattle.model.specs.lists.Syntax.{Definition}
use Rattle.model.specs.lists.Names.{number, has_name, IsDistinct}
use Rattle.model.specs.lists.Tables.{TermEntry}
use Rattle.model.specs.lists.KnownTypes.{KnownTypes}
use Rattle.model.specs.lists.Setting.{entry_named}
use Rattle.model.specs.lists.TermTable.{decl_names, function_of, made_by, term_names, term_names_met, term_table, IsValidTerms}
use Rattle.model.specs.rules.Meaning.{look}
use Rattle.model.specs.rules.Outcome.{then_option}
use Rattle.model.specs.claims.Environments.{TypesRead, IsReadAs, AreReadable, setting_of, numbered, terms_by_name, environment_of, with_read_names, AreTermsOf}
use Rattle.model.proofs.Mapped.{get_mapped}
use Rattle.model.proofs.Members.{get_within, in_head, in_tail, get_from_member, member_from_get, all_members}
use Rattle.model.proofs.Names.{found, has_at, at_number, has_left, has_kept, has_met, get_kept, number_below}
use Rattle.laws_typing.proofs.TermLaws.{terms_have_names_lem, terms_stand_at_ids_lem}
use Rattle.laws_typing.proofs.TypesStay.{types_are_shown_lem, types_stay_lem}
use Rattle.core_types.specs.declared.type_env.TypeEnv.{TypeEnv}
use Rattle.core_types.specs.Envs.{names_of, type_at}
use Rattle.core_types.specs.EnvViews.{environment_view}
use Rattle.core_terms.proofs.TypesStaying.{with_names_more}
use Rattle.core_rules.specs.declared.term_env.TermEnv.{TermEnv}
use Rattle.core_rules.specs.ShownEnvs.{terms_shown_by}
use Rattle.core_rules.specs.ShownSettings.{IsSettingOf, IsWholeTemplate}
use Rattle.core_rules.proofs.TemplateUses.{templates_are_whole}

-- 1. look-ups
-- a fact of all keys is one of each that is looked up
looked_key : (P : ℕ → Type 0) (es : List (ℕ × ℕ)) (k v : ℕ) → All (λ (e : ℕ × ℕ). P e.0) es → look (λ n. n == k) es ≡ Some v → P k
looked_key P [] k v a h = absurd (none-some v h)
looked_key P (e ∷ es) k v a h =
    elim (cases_Bool (e.0 == k)) [
      | inl t ↦ subst P (eqb-true e.0 k t) (All-head (λ (e : ℕ × ℕ). P e.0) e es a)
      | inr n ↦ looked_key P es k v (All-tail (λ (e : ℕ × ℕ). P e.0) e es a) (sym (cond-false (e.0 == k) (Some e.1) (look (λ n. n == k) es) n) ∙ h)
    ]

-- what is looked up among places is the first place
look_place : (f : List ℕ → ℕ) (i : ℕ) (ts : List (List ℕ)) (k : ℕ) → look (λ n. n == k) (map (λ p. (f p.1, p.0)) (enumerate_from i ts)) ≡ position_from (λ n. n == k) i (map f ts)
look_place f i [] k = refl
look_place f i (t ∷ ts) k = ap (cond (f t == k) (Some i)) (look_place f (i + 1) ts k)

-- the term that is looked up by name, where each stands at its id
look_entry : (all ts : List TermEntry) (k : ℕ) → ((t : TermEntry) → Contains ts t → slice_get all t.id ≡ Some t) → then_option (look (λ n. n == k) (terms_by_name ts)) (slice_get all) ≡ entry_named k ts
look_entry all [] k at = refl
look_entry all (t ∷ ts) k at = grind (arith, common_steps, look_entry all ts k (λ u c. at u (in_tail t u ts c)), in_head, in_tail)

-- 2. the names of terms were met
names_of_step : (ns : List (List ℕ)) (m : ℕ) (o : Option (List ℕ)) → slice_get ns m ≡ o → (rest : List (List ℕ)) → All (λ x. has_name ns x ≡ true) rest → All (λ x. has_name ns x ≡ true) (cons_option o rest)
names_of_step ns m o e rest a = grind (arith, common_steps, has_at)

names_at : (ns : List (List ℕ)) (ms : List ℕ) → All (λ x. has_name ns x ≡ true) (filter_map (slice_get ns) ms)
names_at ns [] = All-nil (λ x. has_name ns x ≡ true)
names_at ns (m ∷ ms) = names_of_step ns m (slice_get ns m) refl (filter_map (slice_get ns) ms) (names_at ns ms)

all_below : (ns xs : List (List ℕ)) → All (λ x. has_name ns x ≡ true) xs → All (λ n. n < length ns) (map (number ns) xs)
all_below ns [] a = All-nil (λ n. n < length ns)
all_below ns (x ∷ xs) a =
    All-cons (λ n. n < length ns) (number ns x) (map (number ns) xs) (number_below ns x (All-head (λ x. has_name ns x ≡ true) x xs a)) (all_below ns xs (All-tail (λ x. has_name ns x ≡ true) x xs a))

numbered_below : (ns : List (List ℕ)) (i : ℕ) (xs : List (List ℕ)) → All (λ x. has_name ns x ≡ true) xs → All (λ (e : ℕ × ℕ). e.0 < length ns) (map (λ p. (number ns p.1, p.0)) (enumerate_from i xs))
numbered_below ns i [] a = All-nil (λ (e : ℕ × ℕ). e.0 < length ns)
numbered_below ns i (x ∷ xs) a =
    All-cons (λ (e : ℕ × ℕ). e.0 < length ns) (number ns x, i) (map (λ p. (number ns p.1, p.0)) (enumerate_from (i + 1) xs))
    (number_below ns x (All-head (λ x. has_name ns x ≡ true) x xs a)) (numbered_below ns (i + 1) xs (All-tail (λ x. has_name ns x ≡ true) x xs a))

named_below : (n : ℕ) (ts : List TermEntry) → All (λ m. m < n) (map (λ t. t.name) ts) → All (λ (e : ℕ × ℕ). e.0 < n) (terms_by_name ts)
named_below n [] a = All-nil (λ (e : ℕ × ℕ). e.0 < n)
named_below n (t ∷ ts) a = All-cons (λ (e : ℕ × ℕ). e.0 < n) (t.name, t.id) (terms_by_name ts) (All-head (λ m. m < n) t.name (map (λ t. t.name) ts) a) (named_below n ts (All-tail (λ m. m < n) t.name (map (λ t. t.name) ts) a))

module _ (k : KnownTypes) (defs : List Definition) where
  abbrev further : List (List ℕ)
  further = decl_names defs ++ flat_map function_of defs

  abbrev IsMet : List ℕ → Type 0
  IsMet x = has_name (term_names_met k defs) x ≡ true

  declared_met : All IsMet (decl_names defs)
  declared_met =
      all_members IsMet (decl_names defs) (λ x c. let g = get_from_member (decl_names defs) x c in has_met k.names further x (has_left (decl_names defs) (flat_map function_of defs) x (has_at (decl_names defs) g.0 x g.1)))

  made_met : All IsMet (filter_map (slice_get k.names) (flat_map made_by k.types))
  made_met = All-weaker (λ x. has_name k.names x ≡ true) IsMet (λ x h. has_kept k.names further x h) (filter_map (slice_get k.names) (flat_map made_by k.types)) (names_at k.names (flat_map made_by k.types))

  terms_met : All IsMet (term_names k defs)
  terms_met = All-append IsMet (decl_names defs) (filter_map (slice_get k.names) (flat_map made_by k.types)) declared_met made_met

  still_below : (n : ℕ) → n < length k.names → n < length (term_names_met k defs)
  still_below n l = let y = get_within k.names n l in slice_get_within (term_names_met k defs) n y.0 (get_kept k.names further n y.0 y.1)

-- 3. the numbers of the names of terms
module _ (e : TypesRead) (r : AreReadable e) (defs : List Definition) where
  abbrev numbers_met : List (List ℕ)
  numbers_met = term_names_met e.known defs

  term_numbers : All (λ n. n < length numbers_met) (map (λ t. t.name) (term_table e.known defs))
  term_numbers = subst (All (λ n. n < length numbers_met)) (sym (terms_have_names_lem.0 e.known defs r.well_formed)) (all_below numbers_met (term_names e.known defs) (terms_met e.known defs))

  -- they differ, since the names do
  pub terms_once : IsValidTerms e.known defs → IsDistinct (map (λ t. t.name) (term_table e.known defs))
  terms_once valid = subst IsDistinct (sym (terms_have_names_lem.0 e.known defs r.well_formed)) (λ j l n p q.
      let x = get_mapped (number numbers_met) (term_names e.known defs) j n p in
      let y = get_mapped (number numbers_met) (term_names e.known defs) l n q in
      let here = All-contains (λ z. has_name numbers_met z ≡ true) (term_names e.known defs) x.0 (terms_met e.known defs) (member_from_get (term_names e.known defs) j x.0 x.1) in
      let there = All-contains (λ z. has_name numbers_met z ≡ true) (term_names e.known defs) y.0 (terms_met e.known defs) (member_from_get (term_names e.known defs) l y.0 y.1) in
      let same : y.0 ≡ x.0 = at_number numbers_met x.0 y.0 (ap (slice_get numbers_met) (x.2 ∙ sym y.2) ∙ found numbers_met y.0 there) in
      valid.distinct j l x.0 x.1 (y.1 ∙ ap Some same))

-- 4. the tables
module _ (e : TypesRead) (r : AreReadable e) (defs : List Definition) (env : TermEnv) (tyenv : TypeEnv) (a : AreTermsOf e defs (terms_shown_by env) (environment_view tyenv)) where
  abbrev met : List (List ℕ)
  met = term_names_met e.known defs

  names_are : names_of tyenv ≡ met
  names_are = a.types.names

  more : (xs : List (List ℕ)) × (met ≡ e.known.names ++ xs)
  more = with_names_more e.known.names (decl_names defs ++ flat_map function_of defs)

  types_met : All (λ x. has_name met x ≡ true) e.known.type_names
  types_met = grind (arith, common_steps, has_kept)

  type_names : (k : ℕ) → type_at tyenv k ≡ position_from (λ n. n == k) 0 (map (number e.known.names) e.known.type_names)
  type_names k =
      (types_stay_lem e (environment_of e) (environment_view tyenv) more.0 r (types_are_shown_lem e r) (subst (λ ns. IsReadAs (environment_view tyenv) (with_read_names e ns)) more.1 a.types)).1 k
      ∙ look_place (number e.known.names) 0 e.known.type_names k

  at_ids : (t : TermEntry) → Contains (term_table e.known defs) t → slice_get (term_table e.known defs) t.id ≡ Some t
  at_ids t c = let g = get_from_member (term_table e.known defs) t c in ap (slice_get (term_table e.known defs)) (terms_stand_at_ids_lem e.known defs g.0 t g.1) ∙ g.1

  below : (k : ℕ) → k < length met → k < length (names_of tyenv)
  below k l = subst (λ ns. k < length ns) (sym names_are) l

  pub setting_shown : IsSettingOf tyenv env (setting_of e defs env.expand_internal_extractors)
  setting_shown = record {
    types = a.types.types;
    type_names = type_names;
    constants = a.types.constants;
    terms = a.rows.table;
    term_names = λ k. ap (λ o. then_option o (slice_get (term_table e.known defs))) (a.rows.look_ups k) ∙ look_entry (term_table e.known defs) (term_table e.known defs) k at_ids;
    converters = a.rows.conversions;
    expand = refl;
    types_met = λ k ty h. below k (looked_key (λ n. n < length met) (numbered met e.known.type_names) k ty (numbered_below met 0 e.known.type_names types_met) (sym (a.types.look_ups k) ∙ h));
    constants_met = λ k ty h. below k (looked_key (λ n. n < length met) e.constants k ty (All-weaker (λ (c : ℕ × ℕ). c.0 < length e.known.names) (λ (c : ℕ × ℕ). c.0 < length met) (λ c l. still_below e.known defs c.0 l) e.constants r.names_of_constants) (sym (a.types.constants k) ∙ h));
    terms_met = λ k id h. below k (looked_key (λ n. n < length met) (terms_by_name (term_table e.known defs)) k id (named_below (length met) (term_table e.known defs) (term_numbers e r defs)) (sym (a.rows.look_ups k) ∙ h));
    templates = λ k t h. All-contains IsWholeTemplate (term_table e.known defs) t (templates_are_whole e.known defs a.valid) (member_from_get (term_table e.known defs) k t h);
  }
