-- Reading the variants of an enum, one after another.
use Rattle.std.proofs.Common.{◌≡◌, ℕ, ◌+◌, ◌<◌, List, [], ◌∷◌, ◌++◌, length, take, drop, get_or, map, All, Contains, Some, None, refl, sym, ap, subst, ◌∙◌, arith}
use Rattle.std.specs.List.{flat_map, enumerate_from}
use Rattle.std.proofs.lemmas.List.{append-nil, map_push, map-append, length-map, at_drop_more, take_more, take-append-drop}
use Rattle.std.proofs.lemmas.List.FromFn.{length-enumerate_from}
use Rattle.std.proofs.lemmas.List.Elements.{All-head, All-push, Contains-append_right}
use Rattle.std.proofs.lemmas.Grind.{flat_map-append}
use Rattle.std.proofs.lemmas.Grind.{common_steps}
use Rattle.model.specs.lists.Syntax.{FieldTrees, VariantTree, Definition}
use Rattle.model.specs.lists.Names.{IsDistinct}
use Rattle.model.specs.lists.Tables.{VariantEntry}
use Rattle.model.specs.lists.TypeTable.{all_type_names, place_from, variant_names, variant_entry}
use Rattle.core_syntax.specs.declared.syntax.Error.{Error}
use Rattle.core_syntax.specs.declared.syntax.Variant as S
use Rattle.core_syntax.specs.SyntaxViews as views
use Rattle.core_syntax.specs.Stable.{Members}
use Rattle.core_types.specs.declared.ids.Sym.{Sym}
use Rattle.core_types.specs.declared.type_env.TypeEnv.{TypeEnv}
use Rattle.core_types.specs.declared.types.Variant.{Variant}
use Rattle.core_types.specs.Envs.{names_of, IsInterned}
use Rattle.core_syntax.specs.Positions.{variant_positions}
use Rattle.core_syntax.proofs.Positioned.{among_each}
use Rattle.core_types.specs.ToldErrors.{Notes}
use Rattle.core_types.specs.Reading.{MeetsNames, AreRightFields}
use Rattle.core_types.specs.Stages.{Sees}
use Rattle.core_types.specs.TypeViews.{variant_view}
use Rattle.core_types.specs.VariantReading.{HasSeen, VariantRead, ReadsVariant, VariantsRead, ReadsVariants}
use Rattle.core_types.proofs.EntriesStay.{AllMet, met_self, variants_stay}
use Rattle.core_types.proofs.NamesMet.{meet_more, sees_met}
use Rattle.core_types.proofs.ToldErrors.{noted_among}
use Rattle.core_types.proofs.RightTypes.{all_right}
use Rattle.model.proofs.Members.{in_head}
use Rattle.model.proofs.FirstPlaces.{distinct_push, twice}

abbrev pub own_names : List VariantTree → List (List ℕ)
own_names vs = map (λ v. v.name.text) vs

abbrev pub own_fields : List VariantTree → List FieldTrees
own_fields vs = map (λ v. v.fields) vs

-- the first variants, these, are read
pub record VariantsSoFar (ty : List ℕ) (done : List VariantTree) (read : List Variant) (old : TypeEnv) (es : List Error) (env : TypeEnv) (es' : List Error) (seen : Members Sym) : Type 0 where
  pub inverse : IsInterned env
  pub reads : (defs : List Definition) → Sees old (all_type_names defs) → (es' ≡ es) × VariantsRead defs ty done read old env × HasSeen (names_of env) seen (own_names done)

entries_push : (f : ℕ → VariantTree → VariantEntry) (n : ℕ) (xs : List VariantTree) (v : VariantTree) → map (λ p. f p.0 p.1) (enumerate_from n (xs ++ v ∷ [])) ≡ map (λ p. f p.0 p.1) (enumerate_from n xs) ++ f (n + length xs) v ∷ []
entries_push f n [] v = let e : n ≡ n + 0 = omega arith in ap (λ k. f k v ∷ []) e
entries_push f n (x ∷ xs) v = grind (arith, common_steps, entries_push f (n + 1) xs v)

module _ (ty : List ℕ) (done : List VariantTree) (v : VariantTree) (id : ℕ) (read : List Variant) (old env : TypeEnv) where
  size : (defs : List Definition) → VariantsRead defs ty done read old env → length read ≡ length done
  size defs r =
      sym (length-map read variant_view) ∙ ap length r.entries ∙ length-map (enumerate_from 0 done) (λ p. variant_entry defs (names_of env) ty p.0 p.1) ∙ length-enumerate_from 0 done

  module _ (defs : List Definition) (next : Variant) (new : TypeEnv) (more : Members Sym) (r : VariantsRead defs ty done read old env) (a : VariantRead defs ty id v (own_names done) next env new more) (place : id ≡ length read) where
    abbrev entry_in : TypeEnv → ℕ → VariantTree → VariantEntry
    entry_in e k x = variant_entry defs (names_of e) ty k x

    abbrev entries_in : TypeEnv → List VariantEntry
    entries_in e = map (λ p. variant_entry defs (names_of e) ty p.0 p.1) (enumerate_from 0 done)

    done_stay : entries_in env ≡ entries_in new
    done_stay =
        variants_stay defs (names_of env) (variant_names ty v) ty 0 done (subst (λ ns. AllMet ns (flat_map (variant_names ty) done)) (sym r.meets.names) (met_self (names_of old) (flat_map (variant_names ty) done)))
        ∙ ap (λ ns. map (λ p. variant_entry defs ns ty p.0 p.1) (enumerate_from 0 done)) (sym a.meets.names)

    entries_more : map variant_view (read ++ next ∷ []) ≡ map (λ p. variant_entry defs (names_of new) ty p.0 p.1) (enumerate_from 0 (done ++ v ∷ []))
    entries_more = grind (arith, common_steps, size defs r, map_push variant_view read next, done_stay, entries_push (entry_in new) 0 done v)

    read_more : VariantsRead defs ty (done ++ v ∷ []) (read ++ next ∷ []) old new
    read_more = record {
      distinct = subst IsDistinct (sym (map_push (λ x. x.name.text) done v)) (distinct_push (own_names done) v.name.text r.distinct a.fresh);
      fields = subst (All (AreRightFields defs)) (sym (map_push (λ x. x.fields) done v)) (All-push (AreRightFields defs) (own_fields done) v.fields r.fields a.fields);
      meets =
          let names : flat_map (variant_names ty) done ++ variant_names ty v ≡ flat_map (variant_names ty) (done ++ v ∷ []) =
          sym (flat_map-append (variant_names ty) done (v ∷ []) ∙ ap (λ l. flat_map (variant_names ty) done ++ l) (append-nil (variant_names ty v))) in
          subst (λ ns. MeetsNames ns old new) names (meet_more (flat_map (variant_names ty) done) (variant_names ty v) old env new r.meets a.meets);
      entries = entries_more;
    }

    pub seen_more : HasSeen (names_of new) more (own_names (done ++ v ∷ []))
    seen_more = subst (HasSeen (names_of new) more) (sym (map_push (λ x. x.name.text) done v)) a.sees

  module _ (es es' es'' : List Error) (new : TypeEnv) (seen more : Members Sym) (s : VariantsSoFar ty done read old es env es' seen) where
    -- after one more variant
    pub run_more : (next : Variant) → id ≡ length read → IsInterned new → ((defs : List Definition) (earlier : List (List ℕ)) → Sees env (all_type_names defs) → HasSeen (names_of env) seen earlier → ReadsVariant defs ty id v earlier (Some next) env es' new es'' more) → VariantsSoFar ty (done ++ v ∷ []) (read ++ next ∷ []) old es new es'' more
    run_more next place i step = record {
      inverse = i;
      reads = λ defs sees.
          let r = s.reads defs sees in
          let a = step defs (own_names done) (sees_met (all_type_names defs) (flat_map (variant_names ty) done) old env r.1.meets sees) r.2 in
          (a.0 ∙ r.0, read_more defs next new more r.1 a.1 place, seen_more defs next new more r.1 a.1 place);
    }

    -- where the next variant isn't right
    pub run_wrong : (vs rest : List VariantTree) → done ++ v ∷ rest ≡ vs → ((defs : List Definition) (earlier : List (List ℕ)) → Sees env (all_type_names defs) → HasSeen (names_of env) seen earlier → ReadsVariant defs ty id v earlier None env es' new es'' more) → (defs : List Definition) → Sees old (all_type_names defs) → ReadsVariants defs ty vs None old es new es''
    run_wrong vs rest whole step defs sees =
        let r = s.reads defs sees in
        let a = step defs (own_names done) (sees_met (all_type_names defs) (flat_map (variant_names ty) done) old env r.1.meets sees) r.2 in
        let here : Contains vs v = subst (λ l. Contains l v) whole (Contains-append_right done (v ∷ rest) v (in_head v rest)) in
        let names : own_names done ++ v.name.text ∷ own_names rest ≡ own_names vs = sym (map-append (λ x. x.name.text) done (v ∷ rest)) ∙ ap own_names whole in
        let fields : own_fields vs ≡ own_fields done ++ v.fields ∷ own_fields rest = sym (ap own_fields whole) ∙ map-append (λ x. x.fields) done (v ∷ rest) in (
          record {
            met = flat_map (variant_names ty) done ++ a.0.met;
            meets = meet_more (flat_map (variant_names ty) done) a.0.met old env new r.1.meets a.0.meets;
            notes = subst (λ l. Notes 1 (flat_map variant_positions vs) l es'') r.0 (noted_among 1 (variant_positions v) (flat_map variant_positions vs) es' es'' (among_each variant_positions vs v here) a.0.notes);
          },
          λ distinct right.
              let own : AreRightFields defs v.fields = All-head (AreRightFields defs) v.fields (own_fields rest) (all_right (AreRightFields defs) (own_fields done) (v.fields ∷ own_fields rest) (subst (All (AreRightFields defs)) fields right)) in
              elim (place_from 0 v.name.text (own_names done)) as (λ o. place_from 0 v.name.text (own_names done) ≡ o → ⊥) [
                | None ↦ λ e. a.1 e own
                | Some k ↦ λ e. twice (own_names done) (own_names rest) (own_names vs) v.name.text k distinct names e
              ] refl,
        )

-- the variants as they lie in memory
module _ (ws : List S.Variant) (i : ℕ) (w : S.Variant) (within : i < length ws) (at : w ≡ get_or ws i w) where
  pub one_more : map views.variant_view (take i ws) ++ views.variant_view w ∷ [] ≡ map views.variant_view (take (i + 1) ws)
  one_more = sym (ap (map views.variant_view) (take_more ws i w within ∙ ap (λ x. take i ws ++ x ∷ []) (sym at)) ∙ map_push views.variant_view (take i ws) w)

  pub all_there : map views.variant_view (take i ws) ++ views.variant_view w ∷ map views.variant_view (drop (i + 1) ws) ≡ map views.variant_view ws
  all_there =
      let left : map views.variant_view (drop i ws) ≡ views.variant_view w ∷ map views.variant_view (drop (i + 1) ws) =
      at_drop_more (map views.variant_view) ws i w within ∙ ap (λ x. views.variant_view x ∷ map views.variant_view (drop (i + 1) ws)) (sym at) in
      ap (λ l. map views.variant_view (take i ws) ++ l) (sym left) ∙ sym (map-append views.variant_view (take i ws) (drop i ws)) ∙ ap (map views.variant_view) (take-append-drop i ws)
