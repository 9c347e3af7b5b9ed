-- What reading a rule does as its steps say: its root, its sides, and what is made of them.
use Rattle.std.proofs.Common.{◌≡◌, ℕ, List, [], ◌∷◌, ◌++◌, Option, Some, None, Ok, Err, unwrap_or, pos, sym, ap, subst, ◌∙◌, arith}
use Rattle.std.proofs.lemmas.List.{length-append}
use Rattle.std.proofs.lemmas.Option.{none-some, same_Some}
use Rattle.std.proofs.lemmas.Grind.{common_steps}
use Rattle.core_syntax.proofs.NotedErrors.{may_both}
use Rattle.model.specs.lists.Syntax.{Name, RuleTree}
use Rattle.model.specs.lists.Tables.{Flags, TermEntry}
use Rattle.model.specs.lists.TermTable.{root_name}
use Rattle.model.specs.lists.Setting.{Setting, Scope, var_named, declared_flags}
use Rattle.model.specs.lists.Elaborated.{typed_list, Sides, with_own_name, own_number, rule_of_sides, may_have_priority}
use Rattle.model.specs.rules.Typed.{TypedRule, TypedVar}
use Rattle.model.specs.claims.Refusals.{NamedLimit, of_nesting, of_expansions}
use Rattle.laws_errors.specs.Steps.{no_root, unknown_root, undeclared_root, priority, Why, Step, went_on, stopped, unless}
use Rattle.laws_errors.specs.RuleSteps.{finished_step, declared_step, of_term_step, rooted_step}
use Rattle.core_types.specs.Envs.{names_of, IsInterned}
use Rattle.core_typed.specs.declared.rules.BoundVar.{BoundVar}
use Rattle.core_typed.specs.Elaborating.{place_unless, NotesEachAt}
use Rattle.core_typed.proofs.NotedErrors.{may_note}
use Rattle.core_rules.specs.declared.term_env.TermEnv.{TermEnv}
use Rattle.core_rules.specs.declared.typing.progress.Stop.{Stop}
use Rattle.core_rules.specs.declared.typing.progress.Stop.TheVariants.{Memory, Nesting, Expansions}
use Rattle.core_rules.specs.PatternUses.{found_term}
use Rattle.core_rules.specs.Progress.{vars_of, Remains}
use Rattle.core_rules.specs.RuleReadings.{scope_of}
use Rattle.core_rules.specs.RuleTaking.{sides_steps, rule_steps}
use Rattle.core_rules.specs.Taking.{Stepping, Took, took, ended, EndsAs, StopsBy}
use Rattle.core_rules.specs.ShownSettings.{Standing, Keeps, IsSettingOf, Shows}
use Rattle.core_rules.proofs.PatternUsing.{found_so}
use Rattle.core_rules.proofs.Scopes.{still}
use Rattle.core_rules.proofs.Taken.{behind, unless_at, Goes, seen, taken_as}

-- 1. a rule's own name is met, and nothing else changes
own_names : (name : Option Name) (s : Scope) (ns : List (List ℕ)) (vs : List TypedVar) → ns ≡ s.names → (with_own_name name (record { names = ns; visible = []; vars = vs })).names ≡ (with_own_name name s).names
own_names name s ns vs h = grind (arith, common_steps)

own_vars : (name : Option Name) (s : Scope) → s.vars ≡ (with_own_name name s).vars
own_vars name s = grind (arith, common_steps)

own_visible : (name : Option Name) (s : Scope) (k : ℕ) → var_named k s.visible ≡ var_named k (with_own_name name s).visible
own_visible name s k = grind (arith, common_steps)

own_numbered : (name : Option Name) (s : Scope) (ns : List (List ℕ)) (vs : List TypedVar) → ns ≡ s.names → own_number (record { names = ns; visible = []; vars = vs }) name ≡ own_number s name
own_numbered name s ns vs h = grind (arith, common_steps)

-- the rule is that of the sides and of the names and variables of the scope
module _ (r : RuleTree) (id : ℕ) (t : TermEntry) (q : Sides) where
  abbrev with_parts : List TypedVar → Option ℕ → TypedRule
  with_parts vs o = record { id = id; root_term = t.id; args = typed_list q.0; iflets = q.1.0; rhs = q.1.1; vars = vs; prio = unwrap_or r.prio (pos 0); at = r.at; name = o }

  rule_there : (s : Scope) (ns : List (List ℕ)) (vs : List TypedVar) → ns ≡ s.names → vs ≡ s.vars → rule_of_sides id r t q (record { names = ns; visible = []; vars = vs }) ≡ rule_of_sides id r t q s
  rule_there s ns vs h k = ap (λ v. with_parts v (own_number (record { names = ns; visible = []; vars = vs }) r.name)) k ∙ ap (with_parts s.vars) (own_numbered r.name s ns vs h)

-- 2. what is made of the sides
module _ (id : ℕ) (r : RuleTree) (t : TermEntry) (flags : Flags) (old mid : Standing) where
  abbrev finished : Step Sides → Step TypedRule
  finished = finished_step id r t flags

  nothing_finished : (u : Step Sides) → Goes old mid u (Ok None) → Took old mid (finished u) (Ok None)
  nothing_finished (went_on None s k ws) y = took None s k ws y.1 y.2 y.3
  nothing_finished (went_on (Some q) s k ws) y = absurd (none-some q (sym y.0))
  nothing_finished (stopped l s ws) y = absurd y

  finished_ended : (l : NamedLimit) (u : Step Sides) → Goes old mid u (Err l) → Took old mid (finished u) (Err l)
  finished_ended l (stopped j s ws) y = subst (λ (i : NamedLimit). Took {Q = TypedRule} old mid (stopped j s ws) (Err i)) y.0 (ended j s ws y.1 y.2)
  finished_ended l _ y = absurd y

  module _ (checked new : Standing) (q : Sides) (made : TypedRule) (vars : List BoundVar) (same : checked.tyenv ≡ mid.tyenv) (rem : Remains mid.work checked.work)
      (checks : NotesEachAt (place_unless (may_have_priority flags r) r.at) mid.work.errors.items checked.work.errors.items) (work : new.work ≡ checked.work) (keeps : Keeps checked.tyenv new.tyenv)
      (names : names_of new.tyenv ≡ (with_own_name r.name (scope_of (names_of mid.tyenv) vars)).names) (vs : vars_of mid.work ≡ (scope_of (names_of mid.tyenv) vars).vars)
      (is : made ≡ rule_of_sides id r t q (scope_of (names_of mid.tyenv) vars)) where
    own_shows : (s : Scope) → Shows mid s → Shows new (with_own_name r.name s)
    own_shows s sh = grind (arith, common_steps, own_names, own_vars, own_visible, length-append)

    own_noted : NotesEachAt (place_unless (may_have_priority flags r) r.at) mid.work.errors.items new.work.errors.items
    own_noted = subst (λ w. NotesEachAt (place_unless (may_have_priority flags r) r.at) mid.work.errors.items w.errors.items) (sym work) checks

    rule_is_that : (s : Scope) (p : Sides) → Shows mid s → p ≡ q → rule_of_sides id r t p s ≡ made
    rule_is_that s p sh h = grind (arith, common_steps, rule_there)

    all_finished : (u : Step Sides) → Goes old mid u (Ok (Some q)) → Took old new (finished u) (Ok (Some made))
    all_finished (went_on None s k ws) y = absurd (none-some q y.0)
    all_finished (went_on (Some p) s k ws) y =
        taken_as old new (Some (rule_of_sides id r t p s)) (Some made) (with_own_name r.name s) k (ws ++ unless (may_have_priority flags r) priority r.at)
        (ap Some (rule_is_that s p y.2 (same_Some p q y.0)))
        (grind (arith, common_steps, behind, unless_at))
        (own_shows s y.2)
        (grind (arith, common_steps))
    all_finished (stopped l s ws) y = absurd y

-- 3. the rule
module _ (env : TermEnv) (old : Standing) (inv : IsInterned old.tyenv) (r : RuleTree) (id d : ℕ) where
  abbrev whole : Stepping TypedRule
  whole = rule_steps r id d

  -- nothing is made, for one reason
  refused : (new : Standing) (why : Why) → names_of new.tyenv ≡ names_of old.tyenv → Remains old.work new.work → NotesEachAt (r.at ∷ []) old.work.errors.items new.work.errors.items
      → ((e : Setting) (s : Scope) → IsSettingOf old.tyenv env e → Shows old s → whole e old.work.expansions s ≡ went_on None s 0 (record { why = why; at = r.at } ∷ [])) → EndsAs env old new whole (Ok None)
  refused new why same rem n law = (
    may_note n,
    λ e s is sh. subst (λ t. Took old new t (Ok None)) (sym (law e s is sh))
        (took None s 0 (record { why = why; at = r.at } ∷ []) n (still old new s same rem sh) (let k = rem.expansions in omega (arith, k))),
  )

  pub rootless : (new : Standing) → None ≡ root_name r.pattern → names_of new.tyenv ≡ names_of old.tyenv → Remains old.work new.work → NotesEachAt (r.at ∷ []) old.work.errors.items new.work.errors.items → EndsAs env old new whole (Ok None)
  rootless new none same rem n = refused new no_root same rem n (λ e s is sh. ap (rooted_step e d id r old.work.expansions s) (sym none))

  module _ (x : Name) (root : Some x ≡ root_name r.pattern) where
    of_root : (e : Setting) (s : Scope) (o : Option TermEntry) → o ≡ found_term env old.tyenv x.text → IsSettingOf old.tyenv env e → Shows old s
        → whole e old.work.expansions s ≡ of_term_step e d id r x old.work.expansions s o
    of_root e s o known is sh = ap (rooted_step e d id r old.work.expansions s) (sym root) ∙ ap (of_term_step e d id r x old.work.expansions s) (found_so env old inv x.text o known e s is sh)

    pub root_unknown : (new : Standing) → None ≡ found_term env old.tyenv x.text → names_of new.tyenv ≡ names_of old.tyenv → Remains old.work new.work → NotesEachAt (r.at ∷ []) old.work.errors.items new.work.errors.items
        → EndsAs env old new whole (Ok None)
    root_unknown new none same rem n = refused new (unknown_root x.text) same rem n (λ e s is sh. of_root e s None none is sh)

    module _ (t : TermEntry) (known : Some t ≡ found_term env old.tyenv x.text) where
      pub root_undeclared : (new : Standing) → None ≡ declared_flags t.kind → names_of new.tyenv ≡ names_of old.tyenv → Remains old.work new.work → NotesEachAt (r.at ∷ []) old.work.errors.items new.work.errors.items
          → EndsAs env old new whole (Ok None)
      root_undeclared new none same rem n =
          refused new (undeclared_root x.text) same rem n
          (λ e s is sh. of_root e s (Some t) known is sh ∙ ap (declared_step e d id r x t old.work.expansions s) (sym none))

      module _ (flags : Flags) (declared : Some flags ≡ declared_flags t.kind) (mid : Standing) where
        abbrev sides : Stepping Sides
        sides = sides_steps r x t flags d

        of_sides : (e : Setting) (s : Scope) → IsSettingOf old.tyenv env e → Shows old s → whole e old.work.expansions s ≡ finished_step id r t flags (sides e old.work.expansions s)
        of_sides e s is sh = of_root e s (Some t) known is sh ∙ ap (declared_step e d id r x t old.work.expansions s) (sym declared)

        pub sides_not_made : EndsAs env old mid sides (Ok None) → EndsAs env old mid whole (Ok None)
        sides_not_made h = (
          h.0,
          λ e s is sh.
              let u : Step Sides = sides e old.work.expansions s in
              subst (λ v. Took old mid v (Ok None)) (sym (of_sides e s is sh)) (nothing_finished id r t flags old mid u (seen old mid u (Ok None) (h.1 e s is sh))),
        )

        sides_ended : (l : NamedLimit) → EndsAs env old mid sides (Err l) → EndsAs env old mid whole (Err l)
        sides_ended l h = (
          h.0,
          λ e s is sh.
              let u : Step Sides = sides e old.work.expansions s in
              subst (λ v. Took old mid v (Err l)) (sym (of_sides e s is sh)) (finished_ended id r t flags old mid l u (seen old mid u (Err l) (h.1 e s is sh))),
        )

        pub sides_stop_all : (stop : Stop) → StopsBy env old mid sides stop → StopsBy env old mid whole stop
        sides_stop_all (Memory a) h = tt
        sides_stop_all Nesting h = sides_ended of_nesting h
        sides_stop_all Expansions h = sides_ended of_expansions h

        pub rule_made : (checked new : Standing) (q : Sides) (made : TypedRule) (vars : List BoundVar) → EndsAs env old mid sides (Ok (Some q))
            → checked.tyenv ≡ mid.tyenv → Remains mid.work checked.work → NotesEachAt (place_unless (may_have_priority flags r) r.at) mid.work.errors.items checked.work.errors.items
            → new.work ≡ checked.work → Keeps checked.tyenv new.tyenv → names_of new.tyenv ≡ (with_own_name r.name (scope_of (names_of mid.tyenv) vars)).names
            → vars_of mid.work ≡ (scope_of (names_of mid.tyenv) vars).vars → made ≡ rule_of_sides id r t q (scope_of (names_of mid.tyenv) vars) → EndsAs env old new whole (Ok (Some made))
        rule_made checked new q made vars h same rem checks work keeps names vs is_made = (
          may_both old.work.errors.items mid.work.errors.items new.work.errors.items h.0 (may_note (own_noted id r t flags old mid checked new q made vars same rem checks work keeps names vs is_made)),
          λ e s is sh.
              let u : Step Sides = sides e old.work.expansions s in
              subst (λ v. Took old new v (Ok (Some made))) (sym (of_sides e s is sh))
              (all_finished id r t flags old mid checked new q made vars same rem checks work keeps names vs is_made u (seen old mid u (Ok (Some q)) (h.1 e s is sh))),
        )
