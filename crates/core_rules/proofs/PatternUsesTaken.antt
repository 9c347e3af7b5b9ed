-- What the use of a term in a pattern leads to, step by step as it is looked at.
use Rattle.std.proofs.Common.{◌≡◌, ℕ, suc, ◌+◌, Bool, true, false, cond, eqb, List, [], ◌∷◌, ◌++◌, length, Option, Some, None, Ok, Err, slice_get, unwrap_or, refl, sym, ap, subst, ◌∙◌, inl, inr, arith}
use Rattle.std.proofs.lemmas.Bool.{cases_Bool}
use Rattle.std.proofs.lemmas.Grind.{common_steps}
use Rattle.model.specs.lists.Syntax.{Position, Name, PatternTree, PatternTrees, no_pattern, pattern_and, term_pattern, pattern_list}
use Rattle.model.specs.lists.Tables.{TermEntry}
use Rattle.model.specs.lists.Expansions.{substituted}
use Rattle.model.specs.lists.Setting.{Setting, Scope, is_matchable, template_in, pattern_converter}
use Rattle.model.specs.rules.Typed.{TypedPattern, TypedPatterns, match_term}
use Rattle.laws_errors.specs.Steps.{unknown_extractor, extractor_type, argument_count, Step, unless, noting, made_step}
use Rattle.laws_errors.specs.PatternSteps.{template_step, why_not_matched, term_step, use_step, converted_step, found_step, deeper_step}
use Rattle.core_types.specs.Envs.{names_of, IsInterned}
use Rattle.core_terms.specs.Terms.{has_extractor_kind}
use Rattle.core_typed.specs.Elaborating.{place_unless, NotesEachAt}
use Rattle.core_typed.proofs.NotedErrors.{none_at, may_note}
use Rattle.core_syntax.proofs.NotedErrors.{may_both}
use Rattle.core_rules.specs.declared.term_env.TermEnv.{TermEnv}
use Rattle.core_rules.specs.declared.typing.progress.Stop.{Stop}
use Rattle.core_rules.specs.Progress.{Remains, CountsOne, Counts}
use Rattle.core_rules.specs.PatternTaking.{pattern_steps, parts_steps, made_end}
use Rattle.core_rules.specs.PatternUses.{found_term, found_converter, found_template, inside_term}
use Rattle.core_rules.specs.Taking.{MadeOrLimit, places_of, Took, took, EndsAs, StopsBy, LeadsOn}
use Rattle.core_rules.specs.ShownSettings.{Standing, IsSettingOf, Shows}
use Rattle.core_rules.proofs.ExpansionsTaken.{counted_shows, Nested, expansion, went_deeper, expansion_stops}
use Rattle.core_rules.proofs.PatternUsing.{found_so, found, converter_is, differs}
use Rattle.core_rules.proofs.Scopes.{still}
use Rattle.core_rules.proofs.Taken.{noted, noted_twice, made, unless_at}

-- 1. expansions
abbrev pattern_nested : Bool → PatternTree → ℕ → Nested TypedPattern
pattern_nested multi p ty d = pattern_steps multi p ty d

pattern_expansion : (multi : Bool) (p : PatternTree) (ty d : ℕ) (e : Setting) (n : ℕ) (s : Scope) → deeper_step e multi d p ty n s ≡ expansion (pattern_nested multi p ty) d e n s
pattern_expansion multi p ty d e n s = grind (arith, common_steps)

-- 2. the use of a term
module _ (multi : Bool) (env : TermEnv) (old : Standing) (inv : IsInterned old.tyenv) (name : Name) (args : PatternTrees) (at : Position) (ty d : ℕ) where
  abbrev whole : PatternTree
  whole = term_pattern name args at

  abbrev deeper : Setting → PatternTree → ℕ → ℕ → Scope → Step TypedPattern
  deeper e = deeper_step e multi d

  abbrev parts : Setting → ℕ → Scope → List ℕ → Step TypedPatterns
  parts e n s tys = parts_steps multi args tys d e n s

  -- no term has the name
  pub unknown_used : (new : Standing) → None ≡ found_term env old.tyenv name.text → names_of new.tyenv ≡ names_of old.tyenv → Remains old.work new.work
      → NotesEachAt (at ∷ []) old.work.errors.items new.work.errors.items → EndsAs env old new (pattern_steps multi whole ty d) (Ok None)
  unknown_used new none same r n = (
    may_note n,
    λ e s is sh.
        subst (λ o. Took old new (found_step e multi (deeper e) name args at ty old.work.expansions s (parts e old.work.expansions s) o) (Ok None)) (sym (found_so env old inv name.text None none e s is sh))
        (took None s 0 (record { why = unknown_extractor name.text; at = at } ∷ []) n (still old new s same r sh) (let k = r.expansions in omega (arith, k))),
  )

  module _ (t : TermEntry) (known : Some t ≡ found_term env old.tyenv name.text) where
    known_steps : (e : Setting) (n : ℕ) (s : Scope) → IsSettingOf old.tyenv env e → Shows old s
        → pattern_steps multi whole ty d e n s
        ≡ cond (eqb t.ret_ty ty) (use_step multi (deeper e) name args at ty n s t (parts e n s) (template_in e t.kind)) (converted_step e multi (deeper e) name args at ty n s t (parts e n s) (pattern_converter e t.ret_ty ty))
    known_steps e n s is sh = ap (λ o. found_step e multi (deeper e) name args at ty n s (parts e n s) o) (found multi env old inv name args at ty t known e s is sh)

    -- a use of another type, which a converter brings to this one
    module _ (by : TermEntry) (converts : Some by ≡ found_converter env has_extractor_kind t.ret_ty ty) where
      abbrev inside : PatternTree
      inside = inside_term old.tyenv by at whole

      conversion : (e : Setting) (n : ℕ) (s : Scope) → IsSettingOf old.tyenv env e → Shows old s → pattern_steps multi whole ty d e n s ≡ expansion (pattern_nested multi inside ty) d e n s
      conversion e n s is sh =
          let ne = differs multi env old inv name args at ty t known by converts in
          known_steps e n s is sh
          ∙ ap (λ b. cond b (use_step multi (deeper e) name args at ty n s t (parts e n s) (template_in e t.kind)) (converted_step e multi (deeper e) name args at ty n s t (parts e n s) (pattern_converter e t.ret_ty ty))) ne
          ∙ ap (λ o. converted_step e multi (deeper e) name args at ty n s t (parts e n s) o) (converter_is multi env old inv name args at ty t known e is ne ∙ sym converts)
          ∙ ap (λ ns. deeper_step e multi d (term_pattern (record { text = unwrap_or (slice_get ns by.name) []; at = at }) (pattern_and whole no_pattern) at) ty n s) (sym sh.names)
          ∙ pattern_expansion multi inside ty d e n s

      pub conversion_leads : (new : Standing) (left : ℕ) → names_of new.tyenv ≡ names_of old.tyenv → suc left ≡ d → CountsOne old.work new.work
          → LeadsOn env old new (pattern_steps multi whole ty d) (pattern_steps multi inside ty left) (λ r. r)
      conversion_leads new left same nests one = (
        inl one.errors,
        λ e s is sh after r rest.
            subst (λ t. Took old after t r) (sym (conversion e old.work.expansions s is sh))
            (went_deeper (pattern_nested multi inside ty) e s old new after d left old.work.expansions nests refl one.expansions one.errors r (rest s (counted_shows old new s same one sh))),
      )

      pub conversion_stops : (new : Standing) → new.tyenv ≡ old.tyenv → (stop : Stop) → Counts d old.work new.work (Err stop) → StopsBy env old new (pattern_steps multi whole ty d) stop
      conversion_stops new same stop x =
          expansion_stops env old old new (pattern_nested multi inside ty) d (pattern_steps multi whole ty d) same refl refl (inl refl)
          (λ e s is sh r h. subst (λ t. Took old old t r) (sym (conversion e old.work.expansions s is sh)) h) stop x

    -- a use without a conversion, of a template or of the term itself
    module _ (none : None ≡ found_converter env has_extractor_kind t.ret_ty ty) (o : Option PatternTree) (template : o ≡ found_template env t)
        (mid : Standing) (count : ℕ) (as_many : count ≡ length (pattern_list args)) (same : names_of mid.tyenv ≡ names_of old.tyenv) (r : Remains old.work mid.work)
        (checks : NotesEachAt (place_unless (eqb t.ret_ty ty) at ++ place_unless (eqb count (length t.arg_tys)) at) old.work.errors.items mid.work.errors.items) where
      abbrev itself : Setting → ℕ → Scope → Step TypedPattern
      itself e n s = term_step multi (deeper e) name args at ty n s t (parts e n s) o

      right_type : (e : Setting) (n : ℕ) (s : Scope) → IsSettingOf old.tyenv env e → Shows old s → eqb t.ret_ty ty ≡ true
          → pattern_steps multi whole ty d e n s ≡ noting (unless (eqb (length (pattern_list args)) (length t.arg_tys)) (argument_count name.text (length (pattern_list args)) (length t.arg_tys)) at) (itself e n s)
      right_type e n s is sh alike = grind (arith, common_steps, known_steps e n s is sh)

      wrong_type : (e : Setting) (n : ℕ) (s : Scope) → IsSettingOf old.tyenv env e → Shows old s → eqb t.ret_ty ty ≡ false
          → pattern_steps multi whole ty d e n s
          ≡ noting (unless false (extractor_type name.text ty t.ret_ty) at) (noting (unless (eqb (length (pattern_list args)) (length t.arg_tys)) (argument_count name.text (length (pattern_list args)) (length t.arg_tys)) at) (itself e n s))
      wrong_type e n s is sh ne = grind (arith, common_steps, known_steps e n s is sh, converter_is multi env old inv name args at ty t known e is ne)

      counted_checks : (b : Bool) → eqb t.ret_ty ty ≡ b → NotesEachAt (place_unless b at ++ place_unless (eqb (length (pattern_list args)) (length t.arg_tys)) at) old.work.errors.items mid.work.errors.items
      counted_checks b is_b = grind (arith, common_steps)

      -- behind what was checked
      checked : (new : Standing) (e : Setting) (s : Scope) → IsSettingOf old.tyenv env e → Shows old s → (z : MadeOrLimit TypedPattern) → Took mid new (itself e old.work.expansions s) z
          → Took old new (pattern_steps multi whole ty d e old.work.expansions s) z
      checked new e s is sh z h = elim (cases_Bool (eqb t.ret_ty ty)) [
        | inl alike ↦
            subst (λ t. Took old new t z) (sym (right_type e old.work.expansions s is sh alike))
            (noted old mid new (unless (eqb (length (pattern_list args)) (length t.arg_tys)) (argument_count name.text (length (pattern_list args)) (length t.arg_tys)) at)
            (unless_at (eqb (length (pattern_list args)) (length t.arg_tys)) (argument_count name.text (length (pattern_list args)) (length t.arg_tys)) at old.work.errors.items mid.work.errors.items (counted_checks true alike))
            r.expansions (itself e old.work.expansions s) z h)
        | inr ne ↦
            subst (λ t. Took old new t z) (sym (wrong_type e old.work.expansions s is sh ne))
            (noted_twice old mid new (record { why = extractor_type name.text ty t.ret_ty; at = at }) (unless (eqb (length (pattern_list args)) (length t.arg_tys)) (argument_count name.text (length (pattern_list args)) (length t.arg_tys)) at)
            (both_wrong (eqb (length (pattern_list args)) (length t.arg_tys)) (counted_checks false ne)) r.expansions (itself e old.work.expansions s) z h)
      ]
        where
          both_wrong : (b : Bool) → NotesEachAt (at ∷ place_unless b at) old.work.errors.items mid.work.errors.items
              → NotesEachAt (at ∷ places_of (unless b (argument_count name.text (length (pattern_list args)) (length t.arg_tys)) at)) old.work.errors.items mid.work.errors.items
          both_wrong b n = grind (arith, common_steps)

    module _ (none : None ≡ found_converter env has_extractor_kind t.ret_ty ty)
        (mid : Standing) (count : ℕ) (as_many : count ≡ length (pattern_list args)) (same : names_of mid.tyenv ≡ names_of old.tyenv) (r : Remains old.work mid.work)
        (checks : NotesEachAt (place_unless (eqb t.ret_ty ty) at ++ place_unless (eqb count (length t.arg_tys)) at) old.work.errors.items mid.work.errors.items) where
      -- of the term itself, which is checked too
      pub parts_lead : None ≡ found_template env t → (new : Standing) → names_of new.tyenv ≡ names_of mid.tyenv → Remains mid.work new.work
          → NotesEachAt (place_unless (is_matchable multi t.kind) at) mid.work.errors.items new.work.errors.items
          → LeadsOn env old new (pattern_steps multi whole ty d) (parts_steps multi args t.arg_tys d) (made_end (match_term t.ret_ty t.id))
      parts_lead no_template new here q usable = (
        may_both old.work.errors.items mid.work.errors.items new.work.errors.items (may_note checks) (may_note usable),
        λ e s is sh after z rest.
            let from_old : Took new after (parts e old.work.expansions s t.arg_tys) z =
            subst (λ (n : ℕ). Took new after (parts e n s t.arg_tys) z) (q.expansions ∙ r.expansions) (rest s (still mid new s here q (still old mid s same r sh))) in
            checked none None no_template mid count as_many same r checks after e s is sh (made_end (match_term t.ret_ty t.id) z)
            (noted mid new after (unless (is_matchable multi t.kind) (why_not_matched name.text t.kind) at)
            (unless_at (is_matchable multi t.kind) (why_not_matched name.text t.kind) at mid.work.errors.items new.work.errors.items usable) q.expansions
            (made_step (match_term t.ret_ty t.id) (parts e old.work.expansions s t.arg_tys)) (made_end (match_term t.ret_ty t.id) z)
            (made (match_term t.ret_ty t.id) new after (parts e old.work.expansions s t.arg_tys) z from_old)),
      )

      -- of its template
      module _ (template : PatternTree) (there : Some template ≡ found_template env t) where
        -- with an argument that isn't given
        pub nothing_used : None ≡ substituted (pattern_list args) template → EndsAs env old mid (pattern_steps multi whole ty d) (Ok None)
        nothing_used missing = (
          may_note checks,
          λ e s is sh.
              checked none (Some template) there mid count as_many same r checks mid e s is sh (Ok None)
              (subst (λ o. Took mid mid (template_step (deeper e) ty old.work.expansions s o) (Ok None)) missing (took None s 0 [] (none_at mid.work.errors.items mid.work.errors.items refl) (still old mid s same r sh) (omega arith))),
        )

        -- as what it makes
        module _ (p : PatternTree) (is_made : Some p ≡ substituted (pattern_list args) template) where
          pub template_leads : (new : Standing) (left : ℕ) → names_of new.tyenv ≡ names_of mid.tyenv → suc left ≡ d → CountsOne mid.work new.work
              → LeadsOn env old new (pattern_steps multi whole ty d) (pattern_steps multi p ty left) (λ r. r)
          template_leads new left here nests one = (
            may_both old.work.errors.items mid.work.errors.items new.work.errors.items (may_note checks) (inl one.errors),
            λ e s is sh after z rest.
                checked none (Some template) there mid count as_many same r checks after e s is sh z
                (subst (λ o. Took mid after (template_step (deeper e) ty old.work.expansions s o) z) is_made
                (subst (λ t. Took mid after t z) (sym (pattern_expansion multi p ty d e old.work.expansions s))
                (went_deeper (pattern_nested multi p ty) e s mid new after d left old.work.expansions nests (sym r.expansions) (one.expansions ∙ ap (λ (k : ℕ). k + 1) r.expansions) one.errors z
                (rest s (counted_shows mid new s here one (still old mid s same r sh)))))),
          )

          pub template_stops : (new : Standing) → new.tyenv ≡ mid.tyenv → (stop : Stop) → Counts d mid.work new.work (Err stop) → StopsBy env old new (pattern_steps multi whole ty d) stop
          template_stops new here stop x =
              expansion_stops env old mid new (pattern_nested multi p ty) d (pattern_steps multi whole ty d) here same r.expansions (may_note checks)
              (λ e s is sh z h.
              checked none (Some template) there mid count as_many same r checks mid e s is sh z
              (subst (λ o. Took mid mid (template_step (deeper e) ty old.work.expansions s o) z) is_made (subst (λ t. Took mid mid t z) (sym (pattern_expansion multi p ty d e old.work.expansions s)) h)))
              stop x
