-- The errors of rules, exactly as their steps say: of one rule, then of rules one after another, then of a whole list.
use Rattle.std.proofs.Common.{◌≡◌, ℕ, suc, ◌+◌, ◌<◌, ◌≤◌, List, [], ◌∷◌, ◌++◌, length, map, get_or, All, Option, Some, None, option_map, Ok, Err, append-nil, append_assoc, inl, inr, ⊎_elim, refl, sym, ap, subst, ◌∙◌, arith}
use Rattle.std.proofs.lemmas.List.{map-append, length-map, take_all}
use Rattle.std.proofs.lemmas.List.Elements.{All-nil, Contains-append_cases}
use Rattle.std.proofs.lemmas.Option.{none-some}
use Rattle.std.specs.Option.{option_to_list}
use Rattle.std.proofs.lemmas.Grind.{common_steps}
use Rattle.core_syntax.specs.declared.syntax.Def.{Def}
use Rattle.core_syntax.specs.declared.syntax.Error.{Error}
use Rattle.core_syntax.specs.declared.syntax.Limit.{Limit}
use Rattle.core_syntax.specs.declared.syntax.Limit.TheVariants.{Nesting, Expansions}
use Rattle.core_syntax.specs.declared.syntax.Rule as T
use Rattle.core_syntax.specs.ErrorViews.{limit_view, error_view, error_views}
use Rattle.core_syntax.specs.NotedErrors.{MayNoteMore}
use Rattle.core_syntax.specs.Positions.{HasSingleSpans, NotesAt}
use Rattle.core_syntax.specs.SyntaxViews as S
use Rattle.core_syntax.proofs.NotedErrors.{forms_of}
use Rattle.model.specs.lists.Syntax.{Position, RuleTree}
use Rattle.model.specs.lists.TermTable.{rule_of, rule_trees}
use Rattle.model.specs.lists.Setting.{Setting, Scope, new_scope}
use Rattle.model.specs.lists.Elaborated.{most_nested}
use Rattle.model.specs.rules.Typed.{TypedRule}
use Rattle.model.specs.claims.Refusals.{NamedLimit, of_nesting, of_expansions, ill_typed}
use Rattle.model.proofs.Members.{all_members}
use Rattle.laws_errors.specs.Steps.{Mistake, Step, went_on, stopped}
use Rattle.laws_errors.specs.NameLaws.{names_in}
use Rattle.laws_errors.specs.RuleSteps.{RuleError, is_wrong, passes, errors_of, refusal_of_error, step_of_rule, RulesStep, behind, with_rule, then_rules, rules_step}
use Rattle.core_types.specs.declared.type_env.TypeEnv.{TypeEnv}
use Rattle.core_types.specs.Envs.{names_of}
use Rattle.core_typed.specs.declared.rules.Rule.{Rule}
use Rattle.core_typed.specs.RuleViews.{var_view, rule_view, rule_views}
use Rattle.core_typed.specs.Elaborating.{NotesEachAt}
use Rattle.core_rules.specs.declared.term_env.TermEnv.{TermEnv}
use Rattle.core_rules.specs.declared.typing.progress.Progress.{Progress}
use Rattle.core_rules.specs.declared.typing.progress.Stop.{Stop}
use Rattle.core_rules.specs.declared.typing.progress.Stop.TheVariants as V
use Rattle.core_rules.specs.Progress.{IsFresh}
use Rattle.core_rules.specs.RuleListTaking.{made_in, NotesErrors, IsDoneAs, DoesRule, AreDoneAs, DoesRules, SaysSteps}
use Rattle.core_rules.specs.RuleLists.{NotesLimit, NotesStop}
use Rattle.core_rules.specs.RuleTaking.{rule_steps}
use Rattle.core_rules.specs.Taking.{MadeOrLimit, places_of, EndsAs, StopsBy}
use Rattle.core_rules.specs.ShownSettings.{Standing, standing, Shows, Keeps, IsSettingOf}
use Rattle.core_rules.proofs.NamedLimits.{rules_before, one_more}
use Rattle.core_rules.proofs.Readings.{keep_setting}
use Rattle.core_rules.proofs.Taken.{Goes, seen}

-- 1. errors
pub no_error : (es : List Error) → NotesErrors [] es es
no_error es = record { more = []; added = sym (append-nil es); views = refl; single = All-nil HasSingleSpans }

both_errors : (xs ys : List RuleError) (a b c : List Error) → NotesErrors xs a b → NotesErrors ys b c → NotesErrors (xs ++ ys) a c
both_errors xs ys a b c n m = grind (arith, common_steps, map-append)

-- behind errors of earlier rules
errors_behind : (xs : List RuleError) (errors mid : List Error) → NotesErrors xs [] mid → NotesErrors xs errors (errors ++ mid)
errors_behind xs errors mid n = record { more = n.more; added = ap (λ es. errors ++ es) n.added; views = n.views; single = n.single }

-- what a step finds wrong
wrong_views : (ws : List Mistake) → map ill_typed (places_of ws) ≡ map refusal_of_error (map is_wrong ws)
wrong_views [] = refl
wrong_views (w ∷ ws) = ap (λ vs. ill_typed w.at ∷ vs) (wrong_views ws)

-- errors behind none each have single spans where they stand at positions
single_among : (ps : List Position) (old new more : List Error) → old ≡ [] → NotesAt ps old new → new ≡ old ++ more → All HasSingleSpans more
single_among ps old new more none placed added = grind (arith, all_members HasSingleSpans more, placed.each)

-- 2. one rule, on which nothing was done
module _ (env : TermEnv) (tyenv : TypeEnv) (fresh : Progress) (found : List Error) (f : IsFresh fresh found) (id : ℕ) (r : T.Rule) (new : Standing) where
  abbrev begun : Standing
  begun = standing tyenv fresh

  abbrev tree : RuleTree
  tree = S.rule_view r

  abbrev start : Scope
  start = new_scope (names_of tyenv)

  starts : Shows begun start
  starts = record { names = refl; vars = ap (map var_view) f.vars; visible = f.names; met = λ k v h. absurd (none-some v (sym (f.names k) ∙ h)) }

  abbrev does : Setting → Step TypedRule
  does e = step_of_rule e id tree (names_of tyenv)

  -- it went on from there
  from_here : (e : Setting) → IsSettingOf tyenv env e → (m : MadeOrLimit TypedRule) → EndsAs env begun new (rule_steps tree id most_nested) m → Goes begun new (does e) m
  from_here e is m h = grind (arith, common_steps, seen, starts)

  -- what was noted before the end
  wrong_noted : (ws : List Mistake) → NotesEachAt (places_of ws) fresh.errors.items new.work.errors.items → NotesErrors (map is_wrong ws) found new.work.errors.items
  wrong_noted ws n = record { more = n.more; added = n.added ∙ ap (λ es. es ++ n.more) f.errors; views = n.views ∙ wrong_views ws; single = n.single }

  at_end : (t : Step TypedRule) (m : Option TypedRule) → Goes begun new t (Ok m) → IsDoneAs t tree.at (names_of new.tyenv) m found new.work.errors.items
  at_end t m x = grind (arith, common_steps, wrong_noted)

  pub done_at_end : (o : Option Rule) → EndsAs env begun new (rule_steps tree id most_nested) (Ok (option_map rule_view o)) → DoesRule env tyenv new.tyenv tree id (option_map rule_view o) found new.work.errors.items
  done_at_end o h e is = at_end (does e) (option_map rule_view o) (from_here e is (Ok (option_map rule_view o)) h)

  -- a limit was noted last
  module _ (after : List Error) (empty : found ≡ []) (ps : List Position) (placed : NotesAt ps found after) where
    limit_last : (ws : List Mistake) (l : NamedLimit) (limit : Limit) → limit_view limit ≡ l → NotesEachAt (places_of ws) fresh.errors.items new.work.errors.items → NotesLimit limit r.pos new.work.errors.items after
        → NotesErrors (map is_wrong ws ++ passes l tree.at ∷ []) found after
    limit_last ws l limit is n last =
        let added : after ≡ found ++ (n.more ++ last.error ∷ []) = last.last ∙ ap (λ es. es ++ last.error ∷ []) (n.added ∙ ap (λ es. es ++ n.more) f.errors) ∙ append_assoc found n.more (last.error ∷ []) in
        record {
          more = n.more ++ last.error ∷ [];
          added = added;
          views = grind (arith, common_steps, map-append, wrong_views);
          single = single_among ps found after (n.more ++ last.error ∷ []) empty placed added;
        }

    at_limit : (t : Step TypedRule) (l : NamedLimit) (limit : Limit) → limit_view limit ≡ l → Goes begun new t (Err l) → NotesLimit limit r.pos new.work.errors.items after → IsDoneAs t tree.at (names_of new.tyenv) None found after
    at_limit (went_on o s k ws) l limit is x last = absurd x
    at_limit (stopped j s ws) l limit is x last = record { errors = limit_last ws j limit (is ∙ sym x.0) x.1 last; made = refl; names = x.2 }

    pub done_at_stop : (stop : Stop) → StopsBy env begun new (rule_steps tree id most_nested) stop → NotesStop stop r.pos new.work.errors.items after → DoesRule env tyenv new.tyenv tree id None found after
    done_at_stop (V.Memory refused) h last e is = absurd last
    done_at_stop V.Nesting h last e is = at_limit (does e) of_nesting Nesting refl (from_here e is (Err of_nesting) h) last
    done_at_stop V.Expansions h last e is = at_limit (does e) of_expansions Expansions refl (from_here e is (Err of_expansions) h) last

-- behind the errors of earlier rules
pub rule_behind : (env : TermEnv) (old new : TypeEnv) (r : RuleTree) (id : ℕ) (made : Option TypedRule) (errors mid : List Error) → DoesRule env old new r id made [] mid → DoesRule env old new r id made errors (errors ++ mid)
rule_behind env before new r id made errors mid h e is = grind (arith, common_steps, errors_behind)

pub placed_behind : (ps : List Position) (errors mid : List Error) → NotesAt ps [] mid → NotesAt ps errors (errors ++ mid)
placed_behind ps errors mid placed = record {
  each = λ x h.
      ⊎_elim
      (λ was. inl was)
      (λ k. ⊎_elim (λ none. absurd (let l = none.1 in omega (arith, l))) (λ there. inr there) (placed.each x k))
      (Contains-append_cases errors mid x h);
}

-- 3. the rule that a definition is
pub nothing_done : (env : TermEnv) (tyenv : TypeEnv) (before : List TypedRule) (errors : List Error) → DoesRules env tyenv tyenv [] before before errors errors
nothing_done env tyenv before errors e is = record { errors = no_error errors; made = sym (append-nil before); names = refl }

-- what the steps of one rule come to
alone : (e : Setting) (at : Position) (id : ℕ) (t : Step TypedRule) → then_rules at id t (rules_step e []) ≡ record { rules = option_to_list (made_in t); names = names_in t; errors = errors_of at t }
alone e at id t = grind (arith, common_steps)

pub rule_done : (env : TermEnv) (old new : TypeEnv) (r : RuleTree) (id : ℕ) (made : Option TypedRule) (before rules : List TypedRule) (errors after : List Error)
    → id ≡ length before → rules ≡ before ++ option_to_list made → DoesRule env old new r id made errors after → DoesRules env old new (r ∷ []) before rules errors after
rule_done env old new r id made before rules errors after at added h e is = grind (arith, common_steps, alone)

-- by the rules themselves
same_length : (rules : List Rule) → length rules ≡ length (rule_views rules)
same_length rules = sym (length-map rules rule_view)

pub rule_added : (env : TermEnv) (old new : TypeEnv) (r : RuleTree) (id : ℕ) (made : Option Rule) (q : Rule) (before rules : List Rule) (errors after : List Error)
    → id ≡ length before → made ≡ Some q → rules ≡ before ++ q ∷ [] → DoesRule env old new r id (option_map rule_view made) errors after → DoesRules env old new (r ∷ []) (rule_views before) (rule_views rules) errors after
rule_added env old new r id made q before rules errors after at is items h = grind (arith, common_steps, rule_done, same_length, map-append)

pub rule_left_out : (env : TermEnv) (old new : TypeEnv) (r : RuleTree) (id : ℕ) (made : Option Rule) (before : List Rule) (errors after : List Error)
    → id ≡ length before → made ≡ None → DoesRule env old new r id (option_map rule_view made) errors after → DoesRules env old new (r ∷ []) (rule_views before) (rule_views before) errors after
rule_left_out env old new r id made before errors after at is h = grind (arith, common_steps, rule_done, same_length)

-- 4. rules one after another
-- what the steps of rules come to, then those of the rules that follow
abbrev joined_rules : RulesStep → RulesStep → RulesStep
joined_rules l m = record { rules = l.rules ++ m.rules; names = m.names; errors = l.errors ++ m.errors }

module _ (e : Setting) (qs : List RuleTree) where
  -- the rules that follow, from where others end, the first of which has this id
  abbrev from : ℕ → RulesStep → RulesStep
  from id l = rules_step e qs (id + length l.rules) l.names

  behind_joined : (es : List RuleError) (l m : RulesStep) → behind es (joined_rules l m) ≡ joined_rules (behind es l) m
  behind_joined es l m = ap (λ (xs : List RuleError). record { rules = l.rules ++ m.rules; names = m.names; errors = xs }) (sym (append_assoc es l.errors m.errors))

  next_id : (id : ℕ) (q : TypedRule) (l : RulesStep) → from (suc id) l ≡ from id (with_rule q l)
  next_id id q l = ap (λ k. rules_step e qs k l.names) (omega arith)

  module _ (rs : List RuleTree) (follow : (id : ℕ) (names : List (List ℕ)) → rules_step e (rs ++ qs) id names ≡ joined_rules (rules_step e rs id names) (from id (rules_step e rs id names))) (at : Position) (id : ℕ) where
    after_step : (t : Step TypedRule) → then_rules at id t (rules_step e (rs ++ qs)) ≡ joined_rules (then_rules at id t (rules_step e rs)) (from id (then_rules at id t (rules_step e rs)))
    after_step t = grind (arith, behind_joined, next_id)

  steps_after : (rs : List RuleTree) (id : ℕ) (names : List (List ℕ)) → rules_step e (rs ++ qs) id names ≡ joined_rules (rules_step e rs id names) (from id (rules_step e rs id names))
  steps_after [] id names = ap (λ k. rules_step e qs k names) (omega arith)
  steps_after (r ∷ rs) id names = after_step rs (steps_after rs) r.at id (step_of_rule e id r names)

then_done : (l m : RulesStep) (now names : List (List ℕ)) (before mid rules : List TypedRule) (a b c : List Error) → AreDoneAs l now before mid a b → AreDoneAs m names mid rules b c → AreDoneAs (joined_rules l m) names before rules a c
then_done l m now names before mid rules a b c x y = grind (arith, common_steps, both_errors)

-- nothing is read yet
pub none_done : (env : TermEnv) (tyenv : TypeEnv) (errors : List Error) (rules : List Rule) → rules ≡ [] → DoesRules env tyenv tyenv [] [] (rule_views rules) errors errors
none_done env tyenv errors rules none = subst (λ (rs : List Rule). DoesRules env tyenv tyenv [] [] (rule_views rs) errors errors) (sym none) (nothing_done env tyenv [] errors)

-- after the definition at i
pub next_done : (env : TermEnv) (old now new : TypeEnv) → Keeps old now → (errors mid after : List Error) (defs : List Def) (i : ℕ) (d : Def) → i < length defs → d ≡ get_or defs i d → (before rules : List TypedRule)
    → DoesRules env old now (rules_before defs i) [] before errors mid → DoesRules env now new (rule_of (S.definition_view d)) before rules mid after → DoesRules env old new (rules_before defs (i + 1)) [] rules errors after
next_done env old now new keeps errors mid after defs i d within at before rules first next e is =
    let qs = rule_of (S.definition_view d) in
    let l = rules_step e (rules_before defs i) 0 (names_of old) in
    let a = first e is in
    let b = next e (keep_setting env old now e keeps is) in
    let there : rules_step e qs (length before) (names_of now) ≡ from e qs 0 l =
    ap (λ ps. rules_step e qs (length ps) (names_of now)) a.made ∙ ap (rules_step e qs (length l.rules)) a.names ∙ ap (λ k. rules_step e qs k l.names) (omega arith) in
    let second = subst (λ m. AreDoneAs m (names_of new) before rules mid after) there b in
    let both = then_done l (from e qs 0 l) (names_of now) (names_of new) [] before rules errors mid after a second in
    subst (λ rs. AreDoneAs (rules_step e rs 0 (names_of old)) (names_of new) [] rules errors after) (sym (one_more defs i d within at))
    (subst (λ m. AreDoneAs m (names_of new) [] rules errors after) (sym (steps_after e qs (rules_before defs i) 0 (names_of old))) both)

-- after the last
pub all_done : (env : TermEnv) (old new : TypeEnv) (errors after : List Error) (defs : List Def) (i : ℕ) → length defs ≤ i → (rules : List TypedRule)
    → DoesRules env old new (rules_before defs i) [] rules errors after → DoesRules env old new (rule_trees (S.definition_views defs)) [] rules errors after
all_done env old new errors after defs i past rules done = subst (λ ds. DoesRules env old new (rule_trees (S.definition_views ds)) [] rules errors after) (take_all i defs past) done

-- 5. and what later stages note
pub done_to_the_end : (env : TermEnv) (old new : TypeEnv) (trees : List RuleTree) (rules : List TypedRule) (found after : List Error) → DoesRules env old new trees [] rules [] found → MayNoteMore found after → SaysSteps env old trees after
done_to_the_end env old new trees rules found after done (inl same) e is = grind (arith, common_steps)
done_to_the_end env old new trees rules found after done (inr m) e is =
    let n = (done e is).errors in
    record {
      later = error_views m.more;
      stages = ap error_views (m.added ∙ ap (λ es. es ++ m.more) n.added) ∙ map-append error_view n.more m.more ∙ ap (λ vs. vs ++ error_views m.more) n.views;
      forms = forms_of m.more m.forms;
    }
