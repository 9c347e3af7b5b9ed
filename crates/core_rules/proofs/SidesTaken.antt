-- What reading if-lets and the sides of a rule does as its steps say: one part, then the next where something was made.
use Rattle.std.proofs.Common.{◌≡◌, ℕ, ◌+◌, ◌<◌, ◌≤◌, Bool, eqb, List, [], ◌∷◌, ◌++◌, length, map, drop, get_or, Option, Some, None, option_map, Ok, Err, append-nil, refl, sym, ap, subst, ◌∙◌, arith}
use Rattle.std.proofs.lemmas.List.{drop_more, drop_all, length-map}
use Rattle.std.proofs.lemmas.Option.{none-some, same_Some}
use Rattle.std.specs.Option.{option_to_list}
use Rattle.std.proofs.lemmas.Grind.{common_steps}
use Rattle.core_syntax.specs.declared.syntax.IfLet.{IfLet}
use Rattle.core_syntax.specs.declared.syntax.Pattern as T
use Rattle.core_syntax.specs.SyntaxViews as S
use Rattle.core_syntax.proofs.NotedErrors.{may_both}
use Rattle.model.specs.lists.Syntax.{Position, Name, PatternTrees, IfLetTree, RuleTree, pattern_list}
use Rattle.model.specs.lists.Tables.{Flags, TermEntry}
use Rattle.model.specs.lists.Setting.{Setting, Scope, on_lhs, expr_type}
use Rattle.model.specs.lists.Elaborated.{typed_iflet, root_parts, Sides}
use Rattle.model.specs.rules.Typed.{TypedPattern, TypedPatterns, TypedExpr, TypedIfLet}
use Rattle.model.specs.claims.Refusals.{NamedLimit, of_nesting, of_expansions}
use Rattle.laws_errors.specs.Steps.{argument_count, Step, went_on, stopped, unless, here, made_step, then_step, last_made, then_made}
use Rattle.laws_errors.specs.RuleSteps.{with_iflet}
use Rattle.core_types.specs.declared.ids.TypeId.{TypeId}
use Rattle.core_types.specs.Envs.{names_of}
use Rattle.core_typed.specs.declared.rules.IfLet as R
use Rattle.core_typed.specs.Elaborating.{place_unless, NotesEachAt}
use Rattle.core_typed.specs.RuleViews.{iflet_view}
use Rattle.core_typed.proofs.NotedErrors.{none_at, may_note}
use Rattle.core_rules.specs.declared.term_env.TermEnv.{TermEnv}
use Rattle.core_rules.specs.declared.typing.progress.Stop.{Stop}
use Rattle.core_rules.specs.declared.typing.progress.Stop.TheVariants.{Memory, Nesting, Expansions}
use Rattle.core_rules.specs.ExprTaking.{expr_steps}
use Rattle.core_rules.specs.PatternTaking.{pattern_steps, parts_steps, made_end}
use Rattle.core_rules.specs.Progress.{Remains}
use Rattle.core_rules.specs.RuleTaking.{iflet_steps, iflets_steps, root_steps, sides_steps}
use Rattle.core_rules.specs.Taking.{Stepping, MadeOrLimit, Took, took, EndsAs, StopsBy, LeadsOn}
use Rattle.core_rules.specs.ShownSettings.{Standing, Keeps, Shows}
use Rattle.core_rules.proofs.PatternUsing.{list_length}
use Rattle.core_rules.proofs.Readings.{keep_setting}
use Rattle.core_rules.proofs.Scopes.{still}
use Rattle.core_rules.proofs.Taken.{Goes, seen, unless_at, noted, joined, joined_end, first_stops, made_ends, made_stopped, one_on, one_stops}

-- 1. what follows where something was made
last_end : {X Y : Type 0} (m : Option X) (r : MadeOrLimit Y) → joined_end last_made m r ≡ r
last_end m r = grind (arith, common_steps)

module _ {X Y : Type 0} (old mid : Standing) (next : X → ℕ → Scope → Step Y) where
  abbrev from : X → Scope → ℕ → Step Y
  from x u k = next x (old.work.expansions + k) u

  some_there : (new : Standing) (x : X) (r : MadeOrLimit Y) → ((u : Scope) → Shows mid u → Took mid new (next x mid.work.expansions u) r) → (t : Step X) → Goes old mid t (Ok (Some x)) → Took old new (then_made t from) r
  some_there new x r rest (went_on None u k ws) y = absurd (none-some x y.0)
  some_there new x r rest (went_on (Some z) u k ws) y =
      let at_x : Took mid new (next z mid.work.expansions u) r = subst (λ (v : X). Took mid new (next v mid.work.expansions u) r) (sym (same_Some z x y.0)) (rest u y.2) in
      let from_old : Took mid new (next z (old.work.expansions + k) u) r = subst (λ (j : ℕ). Took mid new (next z j u) r) y.3 at_x in
      subst (Took old new (then_made (went_on (Some z) u k ws) from)) (last_end (Some z) r)
      (joined last_made old mid new (Some z) k ws y.1 y.3 (next z (old.work.expansions + k) u) r from_old)
  some_there new x r rest (stopped l u ws) y = absurd y

  none_there : (t : Step X) → Goes old mid t (Ok None) → Took old mid (then_made t from) (Ok None)
  none_there (went_on None u k ws) y =
      joined {X = X} {Y = Y} {Z = Y} last_made old mid mid None k ws y.1 y.3 (went_on None u 0 []) (Ok None) (took None u 0 [] (none_at mid.work.errors.items mid.work.errors.items refl) y.2 (omega arith))
  none_there (went_on (Some z) u k ws) y = absurd (none-some z (sym y.0))
  none_there (stopped l u ws) y = absurd y

module _ {X Y : Type 0} (env : TermEnv) (old mid : Standing) (first : Stepping X) (next : X → Stepping Y) where
  abbrev both : Stepping Y
  both e n s = then_made (first e n s) (λ x u k. next x e (n + k) u)

  first_ends : (l : NamedLimit) → EndsAs env old mid first (Err l) → EndsAs env old mid both (Err l)
  first_ends l h = grind (arith, common_steps, first_stops)

  pub part_stops : (stop : Stop) → StopsBy env old mid first stop → StopsBy env old mid both stop
  part_stops (Memory a) h = tt
  part_stops Nesting h = first_ends of_nesting h
  part_stops Expansions h = first_ends of_expansions h

  pub none_made : EndsAs env old mid first (Ok None) → EndsAs env old mid both (Ok None)
  none_made h = (
    h.0,
    λ e s is sh. let t : Step X = first e old.work.expansions s in none_there old mid (λ x n u. next x e n u) t (seen old mid t (Ok None) (h.1 e s is sh)),
  )

  module _ (new : Standing) (keeps : Keeps old.tyenv mid.tyenv) (x : X) (made : EndsAs env old mid first (Ok (Some x))) where
    pub then_ends : (r : MadeOrLimit Y) → EndsAs env mid new (next x) r → EndsAs env old new both r
    then_ends r h = (
      may_both old.work.errors.items mid.work.errors.items new.work.errors.items made.0 h.0,
      λ e s is sh.
          let t : Step X = first e old.work.expansions s in
          some_there old mid (λ z n u. next z e n u) new x r (λ u shown. h.1 e u (keep_setting env old.tyenv mid.tyenv e keeps is) shown) t (seen old mid t (Ok (Some x)) (made.1 e s is sh)),
    )

    pub then_stops : (stop : Stop) → StopsBy env mid new (next x) stop → StopsBy env old new both stop
    then_stops (Memory a) h = tt
    then_stops Nesting h = then_ends (Err of_nesting) h
    then_stops Expansions h = then_ends (Err of_expansions) h

-- 2. an if-let
module _ (env : TermEnv) (old mid : Standing) (i : IfLetTree) (flags : Flags) (d : ℕ) where
  abbrev value : Stepping TypedExpr
  value = expr_steps i.expr (on_lhs flags) None d

  abbrev pattern : TypedExpr → Stepping TypedPattern
  pattern x = pattern_steps flags.multi i.pattern (expr_type x) d

  abbrev matched : TypedExpr → Stepping TypedIfLet
  matched x e n s = made_step (typed_iflet x) (pattern x e n s)

  pub iflet_value_stops : (stop : Stop) → StopsBy env old mid value stop → StopsBy env old mid (iflet_steps i flags d) stop
  iflet_value_stops stop h = part_stops env old mid value matched stop h

  pub iflet_no_value : EndsAs env old mid value (Ok None) → EndsAs env old mid (iflet_steps i flags d) (Ok None)
  iflet_no_value h = none_made env old mid value matched h

  module _ (new : Standing) (keeps : Keeps old.tyenv mid.tyenv) (x : TypedExpr) (made : EndsAs env old mid value (Ok (Some x))) where
    pub iflet_pattern_stops : (stop : Stop) → StopsBy env mid new (pattern x) stop → StopsBy env old new (iflet_steps i flags d) stop
    iflet_pattern_stops stop h = then_stops env old mid value matched new keeps x made stop (made_stopped (typed_iflet x) env mid new (pattern x) stop h)

    pub iflet_taken : (m : Option TypedPattern) → EndsAs env mid new (pattern x) (Ok m) → EndsAs env old new (iflet_steps i flags d) (Ok (option_map (typed_iflet x) m))
    iflet_taken m h = then_ends env old mid value matched new keeps x made (Ok (option_map (typed_iflet x) m)) (made_ends (typed_iflet x) env mid new (pattern x) (Ok m) h)

-- 3. if-lets after those that were made
abbrev pub after_iflets : List R.IfLet → MadeOrLimit (List TypedIfLet) → MadeOrLimit (List TypedIfLet)
after_iflets is = made_end (λ js. map iflet_view is ++ js)

after_none : (r : MadeOrLimit (List TypedIfLet)) → r ≡ after_iflets [] r
after_none r = grind (arith, common_steps)

iflet_between : (is : List R.IfLet) (o : Option R.IfLet) (js : List TypedIfLet) → map iflet_view is ++ with_iflet (option_map iflet_view o) js ≡ map iflet_view (is ++ option_to_list o) ++ js
iflet_between is o js = grind (arith, common_steps)

abbrev something : List TypedIfLet → MadeOrLimit (List TypedIfLet)
something js = Ok (Some js)

one_after : (is : List R.IfLet) (o : Option R.IfLet) (r : MadeOrLimit (List TypedIfLet)) → after_iflets is (joined_end with_iflet (option_map iflet_view o) r) ≡ after_iflets (is ++ option_to_list o) r
one_after is o r = grind (arith, iflet_between)

-- those that are read on
abbrev pub iflets_from : Flags → List IfLet → ℕ → ℕ → Stepping (List TypedIfLet)
iflets_from flags all d i = iflets_steps (map S.iflet_view (drop i all)) flags d

-- nothing is read yet
pub no_iflet_read : (env : TermEnv) (old : Standing) (whole : Stepping (List TypedIfLet)) (is : List R.IfLet) → is ≡ [] → LeadsOn env old old whole whole (after_iflets is)
no_iflet_read env old whole is none = grind (arith, common_steps, after_none)

-- all are read
iflets_read : (flags : Flags) (all : List IfLet) (d i : ℕ) → length all ≤ i → (e : Setting) (n : ℕ) (u : Scope) → iflets_from flags all d i e n u ≡ here [] u
iflets_read flags all d i w e n u = ap (λ is. iflets_steps (map S.iflet_view is) flags d e n u) (drop_all i all w)

pub all_iflets_read : (env : TermEnv) (old mid : Standing) (flags : Flags) (all : List IfLet) (d i : ℕ) (whole : Stepping (List TypedIfLet)) (is : List R.IfLet) → length all ≤ i
    → LeadsOn env old mid whole (iflets_from flags all d i) (after_iflets is) → EndsAs env old mid whole (Ok (Some (map iflet_view is)))
all_iflets_read env old mid flags all d i whole is w on = (
  on.0,
  λ e s is_setting sh.
      subst (λ (js : List TypedIfLet). Took old mid (whole e old.work.expansions s) (Ok (Some js))) (append-nil (map iflet_view is))
      (on.1 e s is_setting sh mid (Ok (Some []))
      (λ u shown. subst (λ t. Took mid mid t (Ok (Some []))) (sym (iflets_read flags all d i w e mid.work.expansions u))
      (took (Some []) u 0 [] (none_at mid.work.errors.items mid.work.errors.items refl) shown (omega arith)))),
)

module _ (flags : Flags) (all : List IfLet) (d i : ℕ) (one : IfLet) (w : i < length all) (one_is : one ≡ get_or all i one) where
  iflets_law : (e : Setting) (n : ℕ) (u : Scope) → iflets_from flags all d i e n u ≡ then_step with_iflet (iflet_steps (S.iflet_view one) flags d e n u) (λ m t k. iflets_from flags all d (i + 1) e (n + k) t)
  iflets_law e n u = ap (λ is. iflets_steps (map S.iflet_view is) flags d e n u) (drop_more all i one w ∙ ap (λ q. q ∷ drop (i + 1) all) (sym one_is))

  module _ (env : TermEnv) (old mid new : Standing) (keeps : Keeps old.tyenv mid.tyenv) (whole : Stepping (List TypedIfLet)) (is : List R.IfLet) (on : LeadsOn env old mid whole (iflets_from flags all d i) (after_iflets is)) where
    pub iflet_goes_on : (o : Option R.IfLet) → EndsAs env mid new (iflet_steps (S.iflet_view one) flags d) (Ok (option_map iflet_view o)) → LeadsOn env old new whole (iflets_from flags all d (i + 1)) (after_iflets (is ++ option_to_list o))
    iflet_goes_on o h =
        one_on with_iflet env old mid new keeps whole (iflet_steps (S.iflet_view one) flags d) (iflets_from flags all d i) (iflets_from flags all d (i + 1)) iflets_law (after_iflets is) on
        (option_map iflet_view o) (after_iflets (is ++ option_to_list o)) (one_after is o) h

    pub iflet_stops_all : (stop : Stop) → StopsBy env mid new (iflet_steps (S.iflet_view one) flags d) stop → StopsBy env old new whole stop
    iflet_stops_all stop h =
        one_stops with_iflet env old mid new keeps whole (iflet_steps (S.iflet_view one) flags d) (iflets_from flags all d i) (iflets_from flags all d (i + 1)) iflets_law (after_iflets is) on (λ l. refl) stop h

-- 4. the arguments of a root, from where their number was looked at
pub root_leads : (env : TermEnv) (old mid : Standing) (multi : Bool) (args : List T.Pattern) (tys : List TypeId) (x : Name) (at : Position) (d : ℕ) → mid.tyenv ≡ old.tyenv → Remains old.work mid.work
    → NotesEachAt (place_unless (eqb (length args) (length tys)) at) old.work.errors.items mid.work.errors.items
    → LeadsOn env old mid (root_steps multi (S.pattern_views args) (map (λ t. t.0) tys) x at d) (parts_steps multi (S.pattern_views args) (map (λ t. t.0) tys) d) (λ r. r)
root_leads env old mid multi args tys x at d same remains n = (
  may_note n,
  λ e s is sh new r rest.
      let ps : PatternTrees = S.pattern_views args in
      let ts : List ℕ = map (λ t. t.0) tys in
      let count : Bool = eqb (length (pattern_list ps)) (length ts) in
      let counted : eqb (length args) (length tys) ≡ count = ap (λ (k : ℕ). eqb k (length tys)) (sym (list_length args)) ∙ ap (eqb (length (pattern_list ps))) (sym (length-map tys (λ t. t.0))) in
      let noted_so = subst (λ b. NotesEachAt (place_unless b at) old.work.errors.items mid.work.errors.items) counted n in
      let why = argument_count x.text (length (pattern_list ps)) (length ts) in
      noted old mid new (unless count why at) (unless_at count why at old.work.errors.items mid.work.errors.items noted_so) remains.expansions (parts_steps multi ps ts d e old.work.expansions s) r
      (subst (λ (k : ℕ). Took mid new (parts_steps multi ps ts d e k s) r) remains.expansions (rest s (still old mid s (ap names_of same) remains sh))),
)

-- 5. the sides of a rule
module _ (env : TermEnv) (r : RuleTree) (args : PatternTrees) (root : root_parts r.pattern ≡ args) (x : Name) (t : TermEntry) (flags : Flags) (d : ℕ) (old one : Standing) where
  abbrev given : PatternTrees → Stepping TypedPatterns
  given ps = root_steps flags.multi ps t.arg_tys x r.at d

  abbrev iflets : Stepping (List TypedIfLet)
  iflets = iflets_steps r.iflets flags d

  abbrev rhs : Stepping TypedExpr
  rhs = expr_steps r.expr flags (Some t.ret_ty) d

  abbrev made_sides : TypedPatterns → List TypedIfLet → TypedExpr → Sides
  made_sides q is y = (q, (is, y))

  abbrev last_part : TypedPatterns → List TypedIfLet → Stepping Sides
  last_part q is e n s = made_step (made_sides q is) (rhs e n s)

  abbrev later_parts : TypedPatterns → Stepping Sides
  later_parts q e n s = then_made (iflets e n s) (λ is u k. last_part q is e (n + k) u)

  pub sides_root_stops : (stop : Stop) → StopsBy env old one (given args) stop → StopsBy env old one (sides_steps r x t flags d) stop
  sides_root_stops stop h = part_stops env old one (given (root_parts r.pattern)) later_parts stop (subst (λ ps. StopsBy env old one (given ps) stop) (sym root) h)

  module _ (two : Standing) (keeps : Keeps old.tyenv one.tyenv) (q : TypedPatterns) (first : EndsAs env old one (given args) (Ok (Some q))) where
    read_root : EndsAs env old one (given (root_parts r.pattern)) (Ok (Some q))
    read_root = subst (λ ps. EndsAs env old one (given ps) (Ok (Some q))) (sym root) first

    pub sides_iflets_stop : (stop : Stop) → StopsBy env one two iflets stop → StopsBy env old two (sides_steps r x t flags d) stop
    sides_iflets_stop stop h = then_stops env old one (given (root_parts r.pattern)) later_parts two keeps q read_root stop (part_stops env one two iflets (last_part q) stop h)

    module _ (new : Standing) (further : Keeps one.tyenv two.tyenv) (is : List TypedIfLet) (second : EndsAs env one two iflets (Ok (Some is))) where
      pub sides_value_stops : (stop : Stop) → StopsBy env two new rhs stop → StopsBy env old new (sides_steps r x t flags d) stop
      sides_value_stops stop h =
          then_stops env old one (given (root_parts r.pattern)) later_parts new keeps q read_root stop
          (then_stops env one two iflets (last_part q) new further is second stop (made_stopped (made_sides q is) env two new rhs stop h))

      pub sides_end : (m : Option TypedExpr) → EndsAs env two new rhs (Ok m) → EndsAs env old new (sides_steps r x t flags d) (Ok (option_map (made_sides q is) m))
      sides_end m h =
          then_ends env old one (given (root_parts r.pattern)) later_parts new keeps q read_root (Ok (option_map (made_sides q is) m))
          (then_ends env one two iflets (last_part q) new further is second (Ok (option_map (made_sides q is) m)) (made_ends (made_sides q is) env two new rhs (Ok m) h))
