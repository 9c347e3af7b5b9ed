-- Reading one variant: its names, its name's test, its fields.
use Rattle.std.proofs.Common.{◌≡◌, ℕ, true, false, not, cond, List, [], ◌∷◌, ◌++◌, Some, None, is_some, slice_get, string_bytes, sym, ap, subst, ◌∙◌, arith}
use Rattle.std.proofs.lemmas.Grind.{common_steps}
use Rattle.model.specs.lists.Syntax.{Definition}
use Rattle.model.specs.lists.Names.{number, with_names}
use Rattle.model.specs.lists.TypeTable.{place_from, full_name, field_names, field_entries, variant_names, variant_entry}
use Rattle.core_syntax.specs.declared.syntax.Variant as S
use Rattle.core_syntax.specs.SyntaxViews as views
use Rattle.core_syntax.specs.Stable.{Members, contains}
use Rattle.core_types.specs.declared.ids.Sym.{Sym}
use Rattle.core_types.specs.declared.ids.VariantId.{VariantId}
use Rattle.core_types.specs.declared.type_env.TypeEnv.{TypeEnv}
use Rattle.core_types.specs.declared.types.Fields.{Fields}
use Rattle.core_types.specs.declared.types.Variant.{Variant}
use Rattle.core_types.specs.Envs.{names_of, symbol_of, same_symbol, IsInterned}
use Rattle.core_types.specs.Reading.{MeetsNames, AreRightFields}
use Rattle.core_types.specs.Stages.{Sees}
use Rattle.core_types.specs.TypeViews.{fields_view, variant_view}
use Rattle.core_types.specs.VariantReading.{HasSeen, VariantRead}
use Rattle.core_types.proofs.Inverse.{inverse_distinct}
use Rattle.core_types.proofs.NamesMet.{meet_more, sees_met}
use Rattle.core_types.proofs.NumbersSeen.{seen_met, seen_number, seen_push}
use Rattle.model.proofs.Names.{with_name_at, number_stays}

-- the full name is met, then the name of the variant
module _ (ty : List ℕ) (w : S.Variant) (old first env : TypeEnv) (one : MeetsNames (full_name ty (string_bytes w.name.0) ∷ []) old first) (two : MeetsNames (string_bytes w.name.0 ∷ []) first env) where
  abbrev own : List ℕ
  own = string_bytes w.name.0

  abbrev whole : List ℕ
  whole = full_name ty own

  abbrev field_texts : List (List ℕ)
  field_texts = field_names (views.fields_view w.fields)

  pub both_met : MeetsNames (whole ∷ (own ∷ [])) old env
  both_met = meet_more (whole ∷ []) (own ∷ []) old first env one two

  pub sees_both : (ts : List (List ℕ)) → Sees old ts → Sees env ts
  sees_both ts s = sees_met ts (whole ∷ (own ∷ [])) old env both_met s

  module _ (seen : Members Sym) (earlier : List (List ℕ)) (h : HasSeen (names_of old) seen earlier) (name : Sym) (numbered : name.0 ≡ number (names_of first) own) where
    seen_both : HasSeen (names_of env) seen earlier
    seen_both = subst (λ ns. HasSeen ns seen earlier) (sym both_met.names) (seen_met (names_of old) seen earlier h (whole ∷ (own ∷ [])))

    at_name : slice_get (names_of env) name.0 ≡ Some own
    at_name = grind (arith, common_steps, with_name_at (names_of first) own)

    is_seen : contains same_symbol seen name ≡ is_some (place_from 0 own earlier)
    is_seen = seen_number (names_of env) seen earlier seen_both name.0 own at_name

    -- the name is in the set: then it is an earlier one's
    pub seen_twice : (b : _) → b ≡ not (contains same_symbol seen name) → b ≡ false → place_from 0 own earlier ≡ None → ⊥
    seen_twice b is found none = grind (arith, common_steps, is_seen)

    fresh_name : (b : _) → b ≡ not (contains same_symbol seen name) → b ≡ true → place_from 0 own earlier ≡ None
    fresh_name b is new = grind (arith, common_steps, is_seen)

    module _ (defs : List Definition) (new : TypeEnv) (fullname : Sym) (numbered_full : fullname.0 ≡ number (names_of old) whole) (id : VariantId) (fields : Fields) where
      abbrev made : Variant
      made = record { name = name; fullname = fullname; id = id; fields = fields; pos = w.pos }

      module _ (met : MeetsNames field_texts env new) where
        all_met : MeetsNames (variant_names ty (views.variant_view w)) old new
        all_met = meet_more (whole ∷ (own ∷ [])) field_texts old env new both_met met

        name_stays : number (names_of first) own ≡ number (names_of new) own
        name_stays = sym (ap (λ ns. number ns own) (met.names ∙ ap (λ ns. with_names ns field_texts) two.names) ∙ number_stays (names_of first) field_texts own)

        full_stays : number (names_of old) whole ≡ number (names_of new) whole
        full_stays = sym (ap (λ ns. number ns whole) all_met.names ∙ number_stays (names_of old) (own ∷ field_texts) whole)

        entry_is : fields_view fields ≡ field_entries defs (names_of new) (views.fields_view w.fields) → variant_view made ≡ variant_entry defs (names_of new) ty id.0 (views.variant_view w)
        entry_is e = grind (arith, common_steps, name_stays, full_stays)

        pub variant_right : IsInterned env → (more : Members Sym) → ((y : Sym) → contains same_symbol more y ≡ cond (same_symbol name y) true (contains same_symbol seen y)) → (b : _) → b ≡ not (contains same_symbol seen name) → b ≡ true → AreRightFields defs (views.fields_view w.fields) → fields_view fields ≡ field_entries defs (names_of new) (views.fields_view w.fields) → VariantRead defs ty id.0 (views.variant_view w) earlier made old new more
        variant_right i more has b is is_new right e =
            let none = fresh_name b is is_new in
            let pushed = seen_push (names_of env) seen earlier seen_both (inverse_distinct (names_of env) (symbol_of env) i) name.0 own at_name none more has in
            record {
              fresh = none;
              fields = right;
              meets = all_met;
              entry = entry_is e;
              sees = subst (λ ns. HasSeen ns more (earlier ++ own ∷ [])) (sym met.names) (seen_met (names_of env) more (earlier ++ own ∷ []) pushed field_texts);
            }
