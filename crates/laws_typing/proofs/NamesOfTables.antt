-- The tables that rules are read with speak of names that the terms have met, so the names of rules before don't matter.
use Rattle.std.proofs.Common.{◌≡◌, ℕ, ◌<◌, Bool, true, List, [], ◌∷◌, ◌++◌, length, map, Option, Some, None, slice_get, option_map, refl, sym, ap, ◌∙◌, subst, inl, inr, arith}
use Rattle.std.specs.List.{cons_option, filter_map, flat_map}
use Rattle.std.specs.Str.{bytes_eq}
use Rattle.std.proofs.lemmas.Bool.{or_cases}
use Rattle.std.proofs.lemmas.Option.{slice_get_within, slice_get-map}
use Rattle.std.proofs.lemmas.List.Elements.{All-contains}
use Rattle.std.proofs.lemmas.Grind.{common_steps}
use Rattle.model.specs.lists.Syntax.{Definition}
use Rattle.model.specs.lists.Names.{number, has_name}
use Rattle.model.specs.lists.Tables.{TermEntry}
use Rattle.model.specs.lists.TermTable.{decl_names, function_of, made_by, term_names, term_names_met, term_table}
use Rattle.model.specs.lists.KnownTypes.{KnownTypes, IsWellFormed}
use Rattle.model.specs.claims.Environments.{TypesRead, AreReadable, setting_of}
use Rattle.laws_typing.specs.FurtherNames.{SpeaksOfNames, NamesOfRulesDontMatter}
use Rattle.model.proofs.Members.{get_within, member_from_get}
use Rattle.model.proofs.Bytes.{same_bytes}
use Rattle.model.proofs.Names.{has_at, has_append, has_left, has_kept, has_met, get_kept, number_below}
use Rattle.laws_typing.proofs.TermLaws.{terms_have_names_lem}
use Rattle.laws_typing.proofs.FurtherNames.{further_names_dont_matter_lem}
use Rattle.model.proofs.Mapped.{get_mapped}

-- the names at these numbers are names
step_names : (ns : List (List ℕ)) (m : ℕ) (o : Option (List ℕ)) → slice_get ns m ≡ o → (rest : List (List ℕ)) (x : List ℕ) → (has_name rest x ≡ true → has_name ns x ≡ true)
    → has_name (cons_option o rest) x ≡ true → has_name ns x ≡ true
step_names ns m None e rest x all h = all h
step_names ns m (Some y) e rest x all h = grind (arith, common_steps, or_cases (bytes_eq y x) (has_name rest x) h, has_at ns m x, same_bytes y x)

names_at : (ns : List (List ℕ)) (ms : List ℕ) (x : List ℕ) → has_name (filter_map (slice_get ns) ms) x ≡ true → has_name ns x ≡ true
names_at ns [] x h = absurd (cc)
names_at ns (m ∷ ms) x h = step_names ns m (slice_get ns m) refl (filter_map (slice_get ns) ms) x (names_at ns ms x) h

module _ (k : KnownTypes) (defs : List Definition) where
  -- the names of terms were met
  names_met : (x : List ℕ) → has_name (term_names k defs) x ≡ true → has_name (term_names_met k defs) x ≡ true
  names_met x h =
      let functions = flat_map function_of defs in
      elim (or_cases (has_name (decl_names defs) x) (has_name (filter_map (slice_get k.names) (flat_map made_by k.types)) x) (sym (has_append (decl_names defs) (filter_map (slice_get k.names) (flat_map made_by k.types)) x) ∙ h)) [
        | inl d ↦ has_met k.names (decl_names defs ++ functions) x (has_left (decl_names defs) functions x d)
        | inr m ↦ has_kept k.names (decl_names defs ++ functions) x (names_at k.names (flat_map made_by k.types) x m)
      ]

  -- a number of the names before is one of the names with those of the terms
  still_below : (n : ℕ) → n < length k.names → n < length (term_names_met k defs)
  still_below n l =
      let y = get_within k.names n l in
      slice_get_within (term_names_met k defs) n y.0 (get_kept k.names (decl_names defs ++ flat_map function_of defs) n y.0 y.1)

  term_below : IsWellFormed k → (i : ℕ) (t : TermEntry) → slice_get (term_table k defs) i ≡ Some t → t.name < length (term_names_met k defs)
  term_below w i t h =
      let same = terms_have_names_lem.0 k defs w in
      let at : slice_get (map (λ e. e.name) (term_table k defs)) i ≡ Some t.name = slice_get-map (λ (e : TermEntry). e.name) (term_table k defs) i ∙ ap (option_map (λ (e : TermEntry). e.name)) h in
      let x = get_mapped (number (term_names_met k defs)) (term_names k defs) i t.name (sym (ap (λ l. slice_get l i) same) ∙ at) in
      subst (λ n. n < length (term_names_met k defs)) x.2 (number_below (term_names_met k defs) x.0 (names_met x.0 (has_at (term_names k defs) i x.0 x.1)))

  type_below : IsWellFormed k → (i n : ℕ) → slice_get (map (number k.names) k.type_names) i ≡ Some n → n < length (term_names_met k defs)
  type_below w i n h = grind (arith, get_mapped (number k.names) k.type_names i n h, still_below n, number_below k.names, member_from_get k.type_names i)

tables_speak : (e : TypesRead) (defs : List Definition) (expand : Bool) → AreReadable e → SpeaksOfNames (setting_of e defs expand) (length (term_names_met e.known defs))
tables_speak e defs expand r = record {
  terms = term_below e.known defs r.well_formed;
  type_names = type_below e.known defs r.well_formed;
  constants = λ i c h. still_below e.known defs c.0 (All-contains (λ (c : ℕ × ℕ). c.0 < length e.known.names) e.constants c r.names_of_constants (member_from_get e.constants i c h));
}

pub names_of_rules_dont_matter_lem : NamesOfRulesDontMatter
names_of_rules_dont_matter_lem e defs expand d id r more readable once =
    further_names_dont_matter_lem (setting_of e defs expand) d id r (term_names_met e.known defs) more (tables_speak e defs expand readable) once
