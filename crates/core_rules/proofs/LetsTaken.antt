-- What reading a let does as its steps say: a definition, the definitions in order, and the whole.
use Rattle.std.proofs.Common.{◌≡◌, ℕ, ◌+◌, ◌<◌, ◌≤◌, true, List, [], ◌∷◌, ◌++◌, length, drop, get_or, Option, Some, None, option_map, Ok, Err, Box, append-nil, inl, refl, sym, ap, subst, ◌∙◌, arith}
use Rattle.std.specs.Option.{option_to_list}
use Rattle.std.specs.declared.alloc.Global.{Global}
use Rattle.std.proofs.lemmas.List.{drop_more, drop_all}
use Rattle.std.proofs.lemmas.Option.{none-some, same_Some}
use Rattle.std.proofs.lemmas.Grind.{common_steps}
use Rattle.core_syntax.specs.declared.syntax.LetDef.{LetDef}
use Rattle.core_syntax.specs.NotedErrors.{MayNoteMore}
use Rattle.core_syntax.specs.SyntaxViews as S
use Rattle.core_syntax.proofs.NotedErrors.{may_both}
use Rattle.model.specs.lists.Syntax.{Position, Name, ExprTree, LetTrees, let_expr}
use Rattle.model.specs.lists.Names.{number, has_name, with_name}
use Rattle.model.specs.lists.Tables.{Flags}
use Rattle.model.specs.lists.Elaborated.{typed_let}
use Rattle.model.specs.lists.Setting as M
use Rattle.model.specs.lists.Setting.{Setting, Scope, met}
use Rattle.model.specs.rules.Typed.{TypedExpr, TypedLets, no_typed_let, typed_let_and}
use Rattle.model.specs.claims.Refusals.{NamedLimit, of_nesting, of_expansions}
use Rattle.model.proofs.Names.{known_name, number_new, has_new, has_left}
use Rattle.laws_typing.proofs.TypesStay.{number_front}
use Rattle.laws_errors.specs.Steps.{unknown_let_type, Mistake, Step, went_on, stopped, here, noting, joined_step, then_step, last_made, after_made, then_made}
use Rattle.laws_errors.specs.ExprSteps.{with_def, def_step, let_step, closed, ended_step}
use Rattle.laws_errors.proofs.GrownScopes.{GrowsOn, grows_same, Opened, opened_before, StepGrows, LetsGrow, DefGrows, expr_grows, lets_grow, deeper_grows, def_grow}
use Rattle.core_types.specs.declared.ids.Sym.{Sym}
use Rattle.core_types.specs.declared.ids.TypeId.{TypeId}
use Rattle.core_types.specs.declared.ids.VarId.{VarId}
use Rattle.core_types.specs.Envs.{names_of, type_of_name, IsInterned}
use Rattle.core_typed.specs.declared.exprs.Expr.{Expr}
use Rattle.core_typed.specs.declared.rules.BoundVar.{BoundVar}
use Rattle.core_typed.specs.Elaborating.{NotesEachAt}
use Rattle.core_typed.specs.ExprViews.{expr_view, let_views, let_parts}
use Rattle.core_typed.proofs.NotedErrors.{none_at, may_note}
use Rattle.core_rules.specs.declared.term_env.TermEnv.{TermEnv}
use Rattle.core_rules.specs.declared.typing.progress.Stop.{Stop}
use Rattle.core_rules.specs.declared.typing.progress.Stop.TheVariants.{Memory, Nesting, Expansions}
use Rattle.core_rules.specs.ExprTaking.{expr_steps}
use Rattle.core_rules.specs.LetTaking.{lets_steps, def_steps, one_def_steps, def_view, defs_made, def_made, Hides, HidesIn, HidesBy}
use Rattle.core_rules.specs.Lets.{before_all, BindsDef, Closes}
use Rattle.core_rules.specs.Progress.{newest, Remains}
use Rattle.core_rules.specs.Taking.{Stepping, MadeOrLimit, places_of, Took, took, ended, EndsAs, StopsBy}
use Rattle.core_rules.specs.ShownSettings.{Standing, Keeps, IsSettingOf, Shows, Wherever}
use Rattle.core_rules.proofs.HiddenNames.{opened_joined, hides_joined, opened_one, bound_hides, closed_hides, closed_names, closed_vars, closed_some}
use Rattle.core_rules.proofs.LetForms.{lets_joined, type_found}
use Rattle.core_rules.proofs.Readings.{keep_setting}
use Rattle.core_rules.proofs.Scopes.{met_shows, bound_shows, as_many}
use Rattle.core_rules.proofs.Taken.{behind, Goes, seen, taken_as, joined, joined_end, first_stops}

-- 1. a definition, from what its value comes to
abbrev binding : ℕ → ℕ → TypedExpr → TypedLets → TypedLets
binding x ty value = typed_let_and x ty value

module _ (x : List ℕ) (own : ℕ) (old mid next : Standing) (errors : mid.work.errors.items ≡ old.work.errors.items) (expansions : mid.work.expansions ≡ old.work.expansions) where
  noted_so : (ws : List Mistake) (new : Standing) → new.work.errors.items ≡ next.work.errors.items → NotesEachAt (places_of ws) mid.work.errors.items next.work.errors.items → NotesEachAt (places_of ws) old.work.errors.items new.work.errors.items
  noted_so ws new same n = subst (λ es. NotesEachAt (places_of ws) old.work.errors.items es) (sym same) (subst (λ es. NotesEachAt (places_of ws) es next.work.errors.items) errors n)

  value_ended : (l : NamedLimit) (t : Step TypedExpr) → Goes mid next t (Err l) → Took old next (def_step x own t) (Err l)
  value_ended l (stopped j u ws) y = subst (λ (i : NamedLimit). Took {Q = TypedLets → TypedLets} old next (stopped j u ws) (Err i)) y.0 (ended j u ws (noted_so ws next refl y.1) y.2)
  value_ended l _ y = absurd y

  -- none is made, and nothing is hidden
  no_value : (t : Step TypedExpr) → Goes mid next t (Ok None) → Took old next (def_step x own t) (Ok None)
  no_value (went_on None u k ws) y = took None u k ws (noted_so ws next refl y.1) y.2 (y.3 ∙ ap (λ (n : ℕ). n + k) expansions)
  no_value (went_on (Some v) u k ws) y = absurd (none-some v (sym y.0))
  no_value (stopped l u ws) y = absurd y

  none_hidden : (hidden : List (Sym × Option BoundVar)) (t : Step TypedExpr) → Goes mid next t (Ok None) → HidesIn def_made hidden hidden (def_step x own t)
  none_hidden hidden t y = grind (arith, none-some)

  -- it is bound
  module _ (new : Standing) (earlier hidden : List (Sym × Option BoundVar)) (id : ℕ) (q : TypedExpr) (made : VarId × TypeId × Box Expr Global) (b : BindsDef next.work new.work earlier hidden id own q made)
      (numbered : id ≡ number (names_of next.tyenv) x) (known : names_of new.tyenv ≡ with_name (names_of next.tyenv) x) where
    view_is : (u : Scope) (v : TypedExpr) → Shows next u → v ≡ q → typed_let_and (length u.vars) own v ≡ def_view made
    view_is u v sh same = grind (arith, common_steps, as_many)

    value_bound : (t : Step TypedExpr) → Goes mid next t (Ok (Some q)) → Took old new (def_step x own t) (Ok (Some (def_view made)))
    value_bound (went_on None u k ws) y = absurd (none-some q y.0)
    value_bound (went_on (Some v) u k ws) y = grind (arith, common_steps, taken_as, view_is, same_Some, noted_so, bound_shows)
    value_bound (stopped l u ws) y = absurd y

    value_hidden : (t : Step TypedExpr) → Goes mid next t (Ok (Some q)) → HidesIn def_made earlier hidden (def_step x own t)
    value_hidden (went_on None u k ws) y = absurd (none-some q y.0)
    value_hidden (went_on (Some v) u k ws) y = grind (arith, common_steps, bound_hides u x own id v earlier hidden, numbered, number_new u.names x)
    value_hidden (stopped l u ws) y = absurd y

module _ (env : TermEnv) (old mid : Standing) (name ty : Name) (value : ExprTree) (flags : Flags) (at : Position) (d : ℕ) (inv : IsInterned old.tyenv) (names : names_of mid.tyenv ≡ with_name (names_of old.tyenv) name.text) (r : Remains old.work mid.work) where
  abbrev one : Stepping (TypedLets → TypedLets)
  one = def_steps name ty value flags at d

  abbrev values : ℕ → Stepping TypedExpr
  values own = expr_steps value flags (Some own) d

  found_type : (o : Option ℕ) → o ≡ type_of_name old.tyenv ty.text → (e : Setting) (s : Scope) → IsSettingOf old.tyenv env e → Shows old s
      → one e old.work.expansions s ≡ let_step name.text ty.text at s (λ own. values own e old.work.expansions (met s name.text)) o
  found_type o h e s is sh = ap (let_step name.text ty.text at s (λ own. values own e old.work.expansions (met s name.text))) (type_found env old mid name ty value at flags inv o h e s is sh)

  shown : (s : Scope) → Shows old s → Shows mid (met s name.text)
  shown s sh = met_shows old mid s name.text names r sh

  -- its type isn't known
  pub unknown_def : None ≡ type_of_name old.tyenv ty.text → NotesEachAt (at ∷ []) old.work.errors.items mid.work.errors.items → EndsAs env old mid one (Ok None)
  unknown_def none n = (
    may_note n,
    λ e s is sh. subst (λ t. Took old mid t (Ok None)) (sym (found_type None none e s is sh))
        (took None (met s name.text) 0 (record { why = unknown_let_type ty.text name.text; at = at } ∷ []) n (shown s sh) (let k = r.expansions in omega (arith, k))),
  )

  pub unknown_hides : None ≡ type_of_name old.tyenv ty.text → (hidden : List (Sym × Option BoundVar)) → HidesBy env old one def_made hidden hidden
  unknown_hides none hidden e s is sh = subst (HidesIn def_made hidden hidden) (sym (found_type None none e s is sh)) (λ k now. refl)

  module _ (keeps : Keeps old.tyenv mid.tyenv) (own : ℕ) (there : Some own ≡ type_of_name old.tyenv ty.text) (errors : mid.work.errors.items ≡ old.work.errors.items) (next : Standing) where
    -- what its value comes to
    goes_at : (end : MadeOrLimit TypedExpr) → EndsAs env mid next (values own) end → (e : Setting) (s : Scope) → IsSettingOf old.tyenv env e → Shows old s → Goes mid next (values own e old.work.expansions (met s name.text)) end
    goes_at end h e s is sh = grind (arith, seen, keep_setting, shown, h.1 e (met s name.text) (keep_setting env old.tyenv mid.tyenv e keeps is) (shown s sh))

    may : MayNoteMore mid.work.errors.items next.work.errors.items → MayNoteMore old.work.errors.items next.work.errors.items
    may h = subst (λ es. MayNoteMore es next.work.errors.items) errors h

    value_ends : (l : NamedLimit) → EndsAs env mid next (values own) (Err l) → EndsAs env old next one (Err l)
    value_ends l h = grind (arith, may h.0, found_type (Some own) there, value_ended name.text own old mid next errors r.expansions l, goes_at (Err l) h)

    pub value_stops : (stop : Stop) → StopsBy env mid next (values own) stop → StopsBy env old next one stop
    value_stops (Memory a) h = tt
    value_stops Nesting h = value_ends of_nesting h
    value_stops Expansions h = value_ends of_expansions h

    pub def_not_made : EndsAs env mid next (values own) (Ok None) → EndsAs env old next one (Ok None)
    def_not_made h = grind (arith, may h.0, found_type (Some own) there, no_value name.text own old mid next errors r.expansions, goes_at (Ok None) h)

    pub def_not_hidden : EndsAs env mid next (values own) (Ok None) → (hidden : List (Sym × Option BoundVar)) → HidesBy env old one def_made hidden hidden
    def_not_hidden h hidden e s is sh = subst (HidesIn def_made hidden hidden) (sym (found_type (Some own) there e s is sh))
        (none_hidden name.text own old mid next errors r.expansions hidden (values own e old.work.expansions (met s name.text)) (goes_at (Ok None) h e s is sh))

    module _ (new : Standing) (same : new.tyenv ≡ next.tyenv) (further : Keeps mid.tyenv next.tyenv) (earlier hidden : List (Sym × Option BoundVar)) (id : ℕ) (named : id ≡ number (names_of old.tyenv) name.text)
        (q : TypedExpr) (made : VarId × TypeId × Box Expr Global) (b : BindsDef next.work new.work earlier hidden id own q made) (h : EndsAs env mid next (values own) (Ok (Some q))) where
      has : has_name (names_of mid.tyenv) name.text ≡ true
      has = ap (λ ns. has_name ns name.text) names ∙ has_new (names_of old.tyenv) name.text

      known : names_of new.tyenv ≡ with_name (names_of next.tyenv) name.text
      known = ap names_of same ∙ sym (known_name (names_of next.tyenv) name.text (ap (λ ns. has_name ns name.text) further.names.1 ∙ has_left (names_of mid.tyenv) further.names.0 name.text has))

      numbered : id ≡ number (names_of next.tyenv) name.text
      numbered = grind (arith, common_steps, number_new (names_of old.tyenv) name.text, number_front (names_of mid.tyenv) further.names.0 name.text has)

      pub def_taken : EndsAs env old new one (Ok (Some (def_view made)))
      def_taken = (
        subst (MayNoteMore old.work.errors.items) (sym b.binds.errors) (may h.0),
        λ e s is sh. subst (λ t. Took old new t (Ok (Some (def_view made)))) (sym (found_type (Some own) there e s is sh))
            (value_bound name.text own old mid next errors r.expansions new earlier hidden id q made b numbered known (values own e old.work.expansions (met s name.text)) (goes_at (Ok (Some q)) h e s is sh)),
      )

      pub def_hides : HidesBy env old one def_made earlier hidden
      def_hides e s is sh = subst (HidesIn def_made earlier hidden) (sym (found_type (Some own) there e s is sh))
          (value_hidden name.text own old mid next errors r.expansions new earlier hidden id q made b numbered known (values own e old.work.expansions (met s name.text)) (goes_at (Ok (Some q)) h e s is sh))

-- 2. definitions in order
-- what later ones come to, behind those that were made by so many expansions
abbrev after_defs : TypedLets → ℕ → Step TypedLets → Step TypedLets
after_defs made k t = joined_step (λ (o : Option TypedLets) ds. lets_joined made ds) None k t

joined_none : (ds : TypedLets) → lets_joined ds no_typed_let ≡ ds
joined_none no_typed_let = refl
joined_none (typed_let_and x ty value rest) = ap (typed_let_and x ty value) (joined_none rest)

joined_one : (made : TypedLets) (b : VarId × TypeId × Box Expr Global) (ds : TypedLets) → lets_joined made (def_view b ds) ≡ lets_joined (lets_joined made (def_view b no_typed_let)) ds
joined_one no_typed_let b ds = refl
joined_one (typed_let_and x ty value rest) b ds = ap (typed_let_and x ty value) (joined_one rest b ds)

joined_def : (made : TypedLets) (o : Option (VarId × TypeId × Box Expr Global)) (ds : TypedLets) → lets_joined made (with_def (option_map def_view o) ds) ≡ lets_joined (lets_joined made (def_made (option_map def_view o))) ds
joined_def made None ds = ap (λ ms. lets_joined ms ds) (sym (joined_none made))
joined_def made (Some b) ds = joined_one made b ds

one_more : (bs : List (VarId × TypeId × Box Expr Global)) (b : VarId × TypeId × Box Expr Global) → lets_joined (let_parts (let_views bs)) (def_view b no_typed_let) ≡ let_parts (let_views (bs ++ b ∷ []))
one_more [] b = refl
one_more (c ∷ bs) b = ap (typed_let_and c.0.0 c.1.0 (expr_view c.2.value)) (one_more bs b)

with_one : (bs : List (VarId × TypeId × Box Expr Global)) (o : Option (VarId × TypeId × Box Expr Global)) → lets_joined (let_parts (let_views bs)) (def_made (option_map def_view o)) ≡ let_parts (let_views (bs ++ option_to_list o))
with_one bs None = joined_none (let_parts (let_views bs)) ∙ ap (λ cs. let_parts (let_views cs)) (sym (append-nil bs))
with_one bs (Some b) = one_more bs b

same_went : (m : Option TypedLets) (u : Scope) (k j : ℕ) (ws vs : List Mistake) → k ≡ j → ws ≡ vs → went_on m u k ws ≡ went_on m u j vs
same_went m u k j ws vs h i = ap (λ (n : ℕ). went_on m u n ws) h ∙ ap (went_on m u j) i

-- one more, then the rest
regrouped : (made : TypedLets) (o : Option (VarId × TypeId × Box Expr Global)) (k j : ℕ) (ws es : List Mistake) (t : Step TypedLets)
    → noting ws (after_defs made k (noting es (joined_step with_def (option_map def_view o) j t))) ≡ noting (ws ++ es) (after_defs (lets_joined made (def_made (option_map def_view o))) (k + j) t)
regrouped made o k j ws es t = grind (arith, common_steps, same_went, joined_def, lets_joined)

-- so far, in a setting and a scope: the whole goes on by the rest from the scope that is shown now
pub record GoneOn (old mid : Standing) (e : Setting) (s : Scope) (whole rest : Stepping TypedLets) (made : TypedLets) (earlier hidden : List (Sym × Option BoundVar)) : Type 0 where
  pub scope : Scope
  pub count : ℕ
  pub wrong : List Mistake
  pub leads : whole e old.work.expansions s ≡ noting wrong (after_defs made count (rest e (old.work.expansions + count) scope))
  pub noted : NotesEachAt (places_of wrong) old.work.errors.items mid.work.errors.items
  pub shows : Shows mid scope
  pub expansions : mid.work.expansions ≡ old.work.expansions + count
  pub opened : Opened made s scope
  pub hides : Hides earlier hidden made scope

abbrev pub DefinesSoFar : TermEnv → Standing → Standing → Stepping TypedLets → Stepping TypedLets → List (VarId × TypeId × Box Expr Global) → List (Sym × Option BoundVar) → List (Sym × Option BoundVar) → Type 0
DefinesSoFar env old mid whole rest made earlier hidden =
    MayNoteMore old.work.errors.items mid.work.errors.items × Wherever env old (λ e s. GoneOn old mid e s whole rest (let_parts (let_views made)) earlier hidden)

behind_none : (t : Step TypedLets) → t ≡ noting [] (after_defs no_typed_let 0 t)
behind_none t = grind (arith, same_went)

pub none_defined : (env : TermEnv) (old : Standing) (whole : Stepping TypedLets) (made : List (VarId × TypeId × Box Expr Global)) (hidden : List (Sym × Option BoundVar)) → made ≡ [] → DefinesSoFar env old old whole whole made hidden hidden
none_defined env old whole made hidden none = subst (λ bs. DefinesSoFar env old old whole whole bs hidden hidden) (sym none) (
  inl refl,
  λ e s is sh. record {
    scope = s;
    count = 0;
    wrong = [];
    leads = behind_none (whole e old.work.expansions s) ∙ ap (λ (n : ℕ). noting [] (after_defs no_typed_let 0 (whole e n s))) (omega arith);
    noted = none_at old.work.errors.items old.work.errors.items refl;
    shows = sh;
    expansions = omega arith;
    opened = grows_same s;
    hides = λ k now. refl;
  },
)

module _ (env : TermEnv) (old mid : Standing) (whole rest : Stepping TypedLets) (made : List (VarId × TypeId × Box Expr Global)) (earlier hidden : List (Sym × Option BoundVar)) (sofar : DefinesSoFar env old mid whole rest made earlier hidden) where
  abbrev ds : TypedLets
  ds = let_parts (let_views made)

  -- all were read
  module _ (law : (e : Setting) (n : ℕ) (u : Scope) → rest e n u ≡ here no_typed_let u) where
    whole_is : (e : Setting) (s : Scope) (g : GoneOn old mid e s whole rest ds earlier hidden) → whole e old.work.expansions s ≡ went_on (Some ds) g.scope g.count g.wrong
    whole_is e s g = grind (arith, common_steps, joined_none, same_went)

    pub all_defined : EndsAs env old mid whole (Ok (Some ds))
    all_defined = (
      sofar.0,
      λ e s is sh.
          let g = sofar.1 e s is sh in
          subst (λ t. Took old mid t (Ok (Some ds))) (sym (whole_is e s g)) (took (Some ds) g.scope g.count g.wrong g.noted g.shows g.expansions),
    )

    pub all_hidden : HidesBy env old whole defs_made earlier hidden
    all_hidden e s is sh = let g = sofar.1 e s is sh in subst (HidesIn defs_made earlier hidden) (sym (whole_is e s g)) g.hides

  -- one more
  module _ (name ty : Name) (value : ExprTree) (flags : Flags) (at : Position) (d : ℕ) (later : Stepping TypedLets) (new : Standing) (keeps : Keeps old.tyenv mid.tyenv)
      (law : (e : Setting) (n : ℕ) (u : Scope) → rest e n u ≡ then_step with_def (def_steps name ty value flags at d e n u) (λ m t k. later e (n + k) t)) where
    abbrev next : Stepping (TypedLets → TypedLets)
    next = def_steps name ty value flags at d

    module _ (e : Setting) (s : Scope) (g : GoneOn old mid e s whole rest ds earlier hidden) where
      abbrev n : ℕ
      n = old.work.expansions + g.count

      so_leads : whole e old.work.expansions s ≡ noting g.wrong (after_defs ds g.count (then_step with_def (next e n g.scope) (λ m t k. later e (n + k) t)))
      so_leads = g.leads ∙ ap (λ t. noting g.wrong (after_defs ds g.count t)) (law e n g.scope)

      stops_at : (l : NamedLimit) (t : Step (TypedLets → TypedLets)) → Goes mid new t (Err l) → Took old new (noting g.wrong (after_defs ds g.count (then_step with_def t (λ m u k. later e (n + k) u)))) (Err l)
      stops_at l (went_on m u k ws) y = absurd y
      stops_at l (stopped j u ws) y =
          subst (λ (i : NamedLimit). Took {Q = TypedLets} old new (stopped j u (g.wrong ++ ws)) (Err i)) y.0
          (ended j u (g.wrong ++ ws) (behind g.wrong ws old.work.errors.items mid.work.errors.items new.work.errors.items g.noted y.1) y.2)

      module _ (o : Option (VarId × TypeId × Box Expr Global)) (now : List (Sym × Option BoundVar)) where
        abbrev Next : Step (TypedLets → TypedLets) → Type 0
        Next t = (whole e old.work.expansions s ≡ noting g.wrong (after_defs ds g.count (then_step with_def t (λ m u k. later e (n + k) u)))) × HidesIn def_made hidden now t × DefGrows g.scope t

        made_on : (u : Scope) (k : ℕ) (ws : List Mistake) → Goes mid new (went_on (option_map def_view o) u k ws) (Ok (option_map def_view o)) → Next (went_on (option_map def_view o) u k ws)
            → GoneOn old new e s whole later (lets_joined ds (def_made (option_map def_view o))) earlier now
        made_on u k ws y h = let was = g.expansions in let more = y.3 in record {
          scope = u;
          count = g.count + k;
          wrong = g.wrong ++ ws;
          leads = grind (arith, common_steps, regrouped, lets_joined);
          noted = behind g.wrong ws old.work.errors.items mid.work.errors.items new.work.errors.items g.noted y.1;
          shows = y.2;
          expansions = omega (arith, was, more);
          opened = opened_joined ds (def_made (option_map def_view o)) s g.scope u g.opened (opened_one g.scope u (option_map def_view o) k ws h.2);
          hides = hides_joined ds (def_made (option_map def_view o)) s g.scope u earlier hidden now g.opened (opened_one g.scope u (option_map def_view o) k ws h.2) g.hides h.1;
        }

        goes_on_at : (t : Step (TypedLets → TypedLets)) → Goes mid new t (Ok (option_map def_view o)) → Next t → GoneOn old new e s whole later (lets_joined ds (def_made (option_map def_view o))) earlier now
        goes_on_at t y h = grind (arith, common_steps, made_on)

      seen_next : (end : MadeOrLimit (TypedLets → TypedLets)) → EndsAs env mid new next end → IsSettingOf old.tyenv env e → Goes mid new (next e n g.scope) end
      seen_next end h is = grind (arith, common_steps, seen mid new (next e mid.work.expansions g.scope) end, keep_setting env old.tyenv mid.tyenv e keeps is)

    def_ends : (l : NamedLimit) → EndsAs env mid new next (Err l) → EndsAs env old new whole (Err l)
    def_ends l h = (
      may_both old.work.errors.items mid.work.errors.items new.work.errors.items sofar.0 h.0,
      λ e s is sh.
          let g = sofar.1 e s is sh in
          subst (λ t. Took old new t (Err l)) (sym (so_leads e s g)) (stops_at e s g l (next e (old.work.expansions + g.count) g.scope) (seen_next e s g (Err l) h is)),
    )

    pub def_stops_all : (stop : Stop) → StopsBy env mid new next stop → StopsBy env old new whole stop
    def_stops_all (Memory a) h = tt
    def_stops_all Nesting h = def_ends of_nesting h
    def_stops_all Expansions h = def_ends of_expansions h

    pub one_defined : (o : Option (VarId × TypeId × Box Expr Global)) (now : List (Sym × Option BoundVar)) → EndsAs env mid new next (Ok (option_map def_view o)) → HidesBy env mid next def_made hidden now
        → DefinesSoFar env old new whole later (made ++ option_to_list o) earlier now
    one_defined o now h i = (
      may_both old.work.errors.items mid.work.errors.items new.work.errors.items sofar.0 h.0,
      λ e s is sh.
          let g = sofar.1 e s is sh in
          subst (λ ms. GoneOn old new e s whole later ms earlier now) (with_one made o)
          (goes_on_at e s g o now (next e (old.work.expansions + g.count) g.scope) (seen_next e s g (Ok (option_map def_view o)) h is) (
            so_leads e s g,
            subst (λ (k : ℕ). HidesIn def_made hidden now (next e k g.scope)) g.expansions (i e g.scope (keep_setting env old.tyenv mid.tyenv e keeps is) g.shows),
            def_grow e flags d name ty value at (old.work.expansions + g.count) g.scope,
          )),
    )

-- the definitions of a list from a place on
abbrev pub defs_from : List LetDef → Flags → Position → ℕ → ℕ → Stepping TypedLets
defs_from defs flags at d i = lets_steps (S.let_views (drop i defs)) flags at d

pub def_first : (defs : List LetDef) (flags : Flags) (at : Position) (d i : ℕ) (def : LetDef) → i < length defs → def ≡ get_or defs i def → (e : Setting) (n : ℕ) (u : Scope)
    → defs_from defs flags at d i e n u ≡ then_step with_def (one_def_steps def flags at d e n u) (λ m t k. defs_from defs flags at d (i + 1) e (n + k) t)
def_first defs flags at d i def w is e n u = ap (λ ds. lets_steps (S.let_views ds) flags at d e n u) (drop_more defs i def w ∙ ap (λ q. q ∷ drop (i + 1) defs) (sym is))

pub defs_read : (defs : List LetDef) (flags : Flags) (at : Position) (d i : ℕ) → length defs ≤ i → (e : Setting) (n : ℕ) (u : Scope) → defs_from defs flags at d i e n u ≡ here no_typed_let u
defs_read defs flags at d i w e n u = ap (λ ds. lets_steps (S.let_views ds) flags at d e n u) (drop_all i defs w)

-- 3. a whole let
module _ (ds : TypedLets) (mid new : Standing) where
  body_ended : (l : NamedLimit) (t : Step TypedExpr) → Goes mid new t (Err l) → Took mid new (ended_step ds t) (Err l)
  body_ended l (stopped j u ws) y = subst (λ (i : NamedLimit). Took {Q = TypedExpr} mid new (stopped j u ws) (Err i)) y.0 (ended j u ws y.1 y.2)
  body_ended l _ y = absurd y

  -- its scope stays open
  no_body : (t : Step TypedExpr) → Goes mid new t (Ok None) → Took mid new (ended_step ds t) (Ok None)
  no_body (went_on None u k ws) y = took None u k ws y.1 y.2 y.3
  no_body (went_on (Some v) u k ws) y = absurd (none-some v (sym y.0))
  no_body (stopped l u ws) y = absurd y

  -- its scope ends
  module _ (s t : Scope) (o : Opened ds s t) (hidden : List (Sym × Option BoundVar)) (hides : Hides [] hidden ds t) (shut : Standing) (same : shut.tyenv ≡ new.tyenv) (c : Closes hidden new.work shut.work) where
    back : (u : Scope) → GrowsOn t u → Shows new u → (k : ℕ) → newest shut.work k ≡ M.var_named k (closed ds u).visible
    back u a sh k = c.names k ∙ ap (before_all hidden k) (sh.visible k) ∙ closed_hides ds s t u hidden o a hides k

    shut_shows : (u : Scope) → GrowsOn t u → Shows new u → Shows shut (closed ds u)
    shut_shows u a sh = record {
      names = ap names_of same ∙ sh.names ∙ sym (closed_names ds u);
      vars = c.vars ∙ sh.vars ∙ sym (closed_vars ds u);
      visible = back u a sh;
      met = grind (arith, common_steps, closed_some ds s u (opened_before ds s t u o a), opened_before ds s t u o a, back u a sh);
    }

    body_closed : (q : TypedExpr) (r : Step TypedExpr) → Goes mid new r (Ok (Some q)) → StepGrows t r → Took mid shut (ended_step ds r) (Ok (Some (typed_let ds q)))
    body_closed q (went_on None u k ws) y a = absurd (none-some q y.0)
    body_closed q (went_on (Some v) u k ws) y a = grind (arith, common_steps, taken_as, same_Some, shut_shows)
    body_closed q (stopped l u ws) y a = absurd y

module _ (env : TermEnv) (old mid : Standing) (defs : LetTrees) (body : ExprTree) (at : Position) (flags : Flags) (ty : Option ℕ) (d : ℕ) where
  abbrev whole_let : Stepping TypedExpr
  whole_let = expr_steps (let_expr defs body at) flags ty d

  abbrev lets : Stepping TypedLets
  lets = lets_steps defs flags at d

  abbrev bodies : Stepping TypedExpr
  bodies = expr_steps body flags ty d

  first_ends : (l : NamedLimit) → EndsAs env old mid lets (Err l) → EndsAs env old mid whole_let (Err l)
  first_ends l h = (
    h.0,
    λ e s is sh. first_stops last_made old mid (after_made (λ ds t k. ended_step ds (bodies e (old.work.expansions + k) t))) l (lets e old.work.expansions s) (h.1 e s is sh),
  )

  pub let_stops_first : (stop : Stop) → StopsBy env old mid lets stop → StopsBy env old mid whole_let stop
  let_stops_first (Memory a) h = tt
  let_stops_first Nesting h = first_ends of_nesting h
  let_stops_first Expansions h = first_ends of_expansions h

  module _ (ds : TypedLets) (hidden : List (Sym × Option BoundVar)) (keeps : Keeps old.tyenv mid.tyenv) (read : EndsAs env old mid lets (Ok (Some ds))) (hides : HidesBy env old lets defs_made [] hidden) (new : Standing) where
    -- what follows the definitions
    module _ (last : Standing) (e : Setting) (r : MadeOrLimit TypedExpr) where
      abbrev Rest : Scope → Type 0
      Rest s = (u : Scope) → Shows mid u → Opened ds s u → Hides [] hidden ds u → Took mid last (ended_step ds (bodies e mid.work.expansions u)) r

      abbrev after : (n : ℕ) → TypedLets → Scope → ℕ → Step TypedExpr
      after n cs t k = ended_step cs (bodies e (n + k) t)

      behind_made : (s u : Scope) (k : ℕ) (ws : List Mistake) → Goes old mid (went_on (Some ds) u k ws) (Ok (Some ds)) → Opened ds s u → Hides [] hidden ds u → Rest s
          → Took old last (then_made (went_on (Some ds) u k ws) (after old.work.expansions)) (joined_end last_made (Some ds) r)
      behind_made s u k ws y o h rest = grind (arith, common_steps, joined last_made old mid last (Some ds) k ws y.1 y.3 (after old.work.expansions ds u k) r)

      behind_defs : (s : Scope) (t : Step TypedLets) → Goes old mid t (Ok (Some ds)) → LetsGrow s t → HidesIn defs_made [] hidden t → Rest s → Took old last (then_made t (after old.work.expansions)) (joined_end last_made (Some ds) r)
      behind_defs s (went_on None u k ws) y o h rest = absurd (none-some ds y.0)
      behind_defs s (went_on (Some cs) u k ws) y o h rest = grind (arith, common_steps, same_Some, joined_end, behind_made)
      behind_defs s (stopped l u ws) y o h rest = absurd y

      behind_lets : (s : Scope) → IsSettingOf old.tyenv env e → Shows old s → Rest s → Took old last (whole_let e old.work.expansions s) (joined_end last_made (Some ds) r)
      behind_lets s is sh rest =
          behind_defs s (lets e old.work.expansions s) (seen old mid (lets e old.work.expansions s) (Ok (Some ds)) (read.1 e s is sh)) (lets_grow e flags d (deeper_grows e flags d) defs at old.work.expansions s) (hides e s is sh) rest

    may_on : MayNoteMore mid.work.errors.items new.work.errors.items → MayNoteMore old.work.errors.items new.work.errors.items
    may_on h = may_both old.work.errors.items mid.work.errors.items new.work.errors.items read.0 h

    body_goes : (r : MadeOrLimit TypedExpr) → EndsAs env mid new bodies r → (e : Setting) → IsSettingOf old.tyenv env e → (u : Scope) → Shows mid u → Goes mid new (bodies e mid.work.expansions u) r
    body_goes r h e is u shown = seen mid new (bodies e mid.work.expansions u) r (h.1 e u (keep_setting env old.tyenv mid.tyenv e keeps is) shown)

    body_ends : (l : NamedLimit) → EndsAs env mid new bodies (Err l) → EndsAs env old new whole_let (Err l)
    body_ends l h = (may_on h.0, λ e s is sh. behind_lets new e (Err l) s is sh (λ u shown o i. body_ended ds mid new l (bodies e mid.work.expansions u) (body_goes (Err l) h e is u shown)))

    pub body_stops : (stop : Stop) → StopsBy env mid new bodies stop → StopsBy env old new whole_let stop
    body_stops (Memory a) h = tt
    body_stops Nesting h = body_ends of_nesting h
    body_stops Expansions h = body_ends of_expansions h

    pub let_not_made : EndsAs env mid new bodies (Ok None) → EndsAs env old new whole_let (Ok None)
    let_not_made h = (may_on h.0, λ e s is sh. behind_lets new e (Ok None) s is sh (λ u shown o i. no_body ds mid new (bodies e mid.work.expansions u) (body_goes (Ok None) h e is u shown)))

    pub let_taken : (shut : Standing) → shut.tyenv ≡ new.tyenv → Closes hidden new.work shut.work → (q : TypedExpr) → EndsAs env mid new bodies (Ok (Some q)) → EndsAs env old shut whole_let (Ok (Some (typed_let ds q)))
    let_taken shut same c q h = (
      subst (MayNoteMore old.work.errors.items) (sym c.errors) (may_on h.0),
      λ e s is sh. behind_lets shut e (Ok (Some (typed_let ds q))) s is sh (λ u shown o i.
          body_closed ds mid new s u o hidden i shut same c q (bodies e mid.work.expansions u) (body_goes (Ok (Some q)) h e is u shown) (expr_grows e flags d (deeper_grows e flags d) body ty mid.work.expansions u)),
    )
