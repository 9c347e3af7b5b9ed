-- What patterns without parts do as their steps say, and a name around a pattern.
use Rattle.std.proofs.Common.{◌≡◌, ℕ, ℤ, Bool, not, nat_eq, List, [], ◌∷◌, length, Option, Some, None, is_some, option_map, slice_get, Result, Ok, Err, inl, refl, sym, ap, subst, ◌∙◌, arith}
use Rattle.std.proofs.lemmas.Option.{none-some, same_Some}
use Rattle.std.proofs.lemmas.Grind.{common_steps}
use Rattle.model.specs.lists.Syntax.{Position, Name, var_pattern, bool_pattern, int_pattern, prim_pattern, macro_arg, wildcard_pattern, PatternTree, bind_pattern}
use Rattle.model.specs.lists.Names.{number, with_name}
use Rattle.model.specs.lists.Ranges.{reduced}
use Rattle.model.specs.lists.Formed.{pattern_type}
use Rattle.model.specs.lists.Setting.{Scope, met, bound, var_of}
use Rattle.model.specs.rules.Values.{is_atom_type}
use Rattle.model.specs.rules.Typed.{TypedPattern, TypedVar, match_bind, match_var, match_bool, match_int, match_prim, match_any}
use Rattle.model.specs.claims.Refusals.{NamedLimit, of_nesting, of_expansions}
use Rattle.model.proofs.Names.{known_name}
use Rattle.laws_errors.specs.Steps.{unknown_constant, macro_argument, bound_type, no_truth, no_integer, rebound, Step, went_on, stopped, unless, here}
use Rattle.laws_errors.specs.PatternSteps.{var_step, bind_step, constant_step}
use Rattle.core_types.specs.Envs.{names_of, constant_at}
use Rattle.core_types.specs.TypeViews.{type_views}
use Rattle.core_typed.specs.Elaborating.{place_unless, NotesEachAt}
use Rattle.core_typed.proofs.NotedErrors.{none_at, may_note}
use Rattle.core_syntax.proofs.NotedErrors.{may_both}
use Rattle.core_typed.specs.declared.patterns.Pattern.{Pattern}
use Rattle.core_typed.specs.PatternViews.{pattern_view}
use Rattle.core_rules.specs.declared.term_env.TermEnv.{TermEnv}
use Rattle.core_rules.specs.declared.typing.progress.Stop.{Stop}
use Rattle.core_rules.specs.declared.typing.progress.Stop.TheVariants.{Memory, Nesting, Expansions}
use Rattle.core_rules.specs.Progress.{newest, BindsNext, Remains}
use Rattle.core_rules.specs.PatternTaking.{pattern_steps, leaf_steps, around_steps}
use Rattle.core_rules.specs.Taking.{MadeOrLimit, Took, took, ended, EndsAs, StopsBy, Takes}
use Rattle.core_rules.specs.ShownSettings.{Standing, Keeps, Shows}
use Rattle.core_rules.proofs.PatternLeaves.{constant_is}
use Rattle.core_rules.proofs.Readings.{keep_setting}
use Rattle.core_rules.proofs.Scopes.{is_met, still, met_shows, as_many, var_is, var_met, bound_shows}
use Rattle.core_rules.proofs.Taken.{Goes, seen, taken_as, tested, later, unless_at}

-- a name
module _ (env : TermEnv) (old new : Standing) (x : Name) (at : Position) (ty : ℕ) (names : names_of new.tyenv ≡ with_name (names_of old.tyenv) x.text) where
  pub var_taken : (v : TypedVar) → Some v ≡ newest old.work (number (names_of old.tyenv) x.text) → Remains old.work new.work
      → NotesEachAt (place_unless (nat_eq v.ty ty) at) old.work.errors.items new.work.errors.items → EndsAs env old new (leaf_steps (var_pattern x at) ty) (Ok (Some (match_var v.ty v.id)))
  var_taken v found r n = (
    may_note n,
    λ e s is sh.
        subst (λ o. Took old new (var_step ty x.text at s o) (Ok (Some (match_var v.ty v.id)))) (sym (var_is old s x.text (Some v) sh found))
        (tested old new (nat_eq v.ty ty) (bound_type x.text ty v.ty) at (match_var v.ty v.id) (match_var v.ty v.id) s refl n (still old new s (names ∙ var_met old s x.text v sh found) r sh) r.expansions),
  )

  pub new_taken : None ≡ newest old.work (number (names_of old.tyenv) x.text) → BindsNext (number (names_of old.tyenv) x.text) ty old.work new.work → (id : ℕ) → id ≡ length old.work.seen.items
      → EndsAs env old new (leaf_steps (var_pattern x at) ty) (Ok (Some (match_bind ty id (match_any ty))))
  new_taken none b id place = grind (arith, common_steps, var_is, taken_as, as_many, none_at, bound_shows)

  -- a named constant
  pub unknown_taken : None ≡ constant_at old.tyenv (number (names_of old.tyenv) x.text) → Remains old.work new.work → NotesEachAt (at ∷ []) old.work.errors.items new.work.errors.items
      → EndsAs env old new (leaf_steps (prim_pattern x at) ty) (Ok None)
  unknown_taken none r n = (
    may_note n,
    λ e s is sh.
        subst (λ o. Took old new (constant_step ty x.text at s o) (Ok None)) (sym (constant_is env old x e s is sh None none))
        (took None (met s x.text) 0 (record { why = unknown_constant x.text; at = at } ∷ []) n (met_shows old new s x.text names r sh) (let k = r.expansions in omega (arith, k))),
  )

  pub constant_taken : (own name : ℕ) → Some own ≡ constant_at old.tyenv (number (names_of old.tyenv) x.text) → name ≡ number (names_of old.tyenv) x.text → Remains old.work new.work
      → NotesEachAt (place_unless (nat_eq own ty) at) old.work.errors.items new.work.errors.items → EndsAs env old new (leaf_steps (prim_pattern x at) ty) (Ok (Some (match_prim own name)))
  constant_taken own name there named r n = grind (arith, common_steps, may_note, constant_is, tested, still, known_name, is_met)

  -- a name around what was made
  module _ (mid : Standing) (same_names : names_of mid.tyenv ≡ names_of old.tyenv) (r : Remains old.work mid.work) (q : TypedPattern) (is_type : pattern_type q ≡ ty)
      (b : BindsNext (number (names_of old.tyenv) x.text) ty mid.work new.work) (id : ℕ) (place : id ≡ length mid.work.seen.items) where
    shown : (s : Scope) → Shows old s → Shows new (bound s x.text (pattern_type q))
    shown s sh = grind (arith, bound_shows, still)

    pub around_taken : NotesEachAt (place_unless (not (is_some (newest old.work (number (names_of old.tyenv) x.text)))) at) old.work.errors.items mid.work.errors.items
        → EndsAs env old new (around_steps x.text at q) (Ok (Some (match_bind (pattern_type q) id q)))
    around_taken n = grind (arith, common_steps, may_note, still, var_is, taken_as, as_many, unless_at, shown)

-- literals, anything, and a template's argument
module _ (env : TermEnv) (old new : Standing) (same : names_of new.tyenv ≡ names_of old.tyenv) (at : Position) (ty : ℕ) (r : Remains old.work new.work) where
  pub truth_taken : (b : Bool) → NotesEachAt (place_unless (nat_eq ty 0) at) old.work.errors.items new.work.errors.items → EndsAs env old new (leaf_steps (bool_pattern b at) ty) (Ok (Some (match_bool 0 b)))
  truth_taken b n = (may_note n, λ e s is sh. tested old new (nat_eq ty 0) (no_truth (Some ty) b) at (match_bool 0 b) (match_bool 0 b) s refl n (still old new s same r sh) r.expansions)

  pub integer_taken : (z n : ℤ) → n ≡ reduced (slice_get (type_views old.tyenv.types.items) ty) z
      → NotesEachAt (place_unless (is_atom_type (slice_get (type_views old.tyenv.types.items) ty)) at) old.work.errors.items new.work.errors.items
      → EndsAs env old new (leaf_steps (int_pattern z at) ty) (Ok (Some (match_int ty n)))
  integer_taken z n stands notes = (
    may_note notes,
    λ e s is sh.
        tested old new (is_atom_type (slice_get e.types ty)) (no_integer ty z) at (match_int ty (reduced (slice_get e.types ty) z)) (match_int ty n) s
        (ap (match_int ty) (ap (λ ts. reduced (slice_get ts ty) z) (sym is.types) ∙ sym stands))
        (subst (λ ts. NotesEachAt (place_unless (is_atom_type (slice_get ts ty)) at) old.work.errors.items new.work.errors.items) is.types notes)
        (still old new s same r sh) r.expansions,
  )

  pub refused_taken : (i : ℕ) → NotesEachAt (at ∷ []) old.work.errors.items new.work.errors.items → EndsAs env old new (leaf_steps (macro_arg i at) ty) (Ok None)
  refused_taken i n = (may_note n, λ e s is sh. took None s 0 (record { why = macro_argument i; at = at } ∷ []) n (still old new s same r sh) (let k = r.expansions in omega (arith, k)))

pub any_taken : (env : TermEnv) (old : Standing) (at : Position) (ty : ℕ) → EndsAs env old old (leaf_steps (wildcard_pattern at) ty) (Ok (Some (match_any ty)))
any_taken env old at ty = (inl refl, λ e s is sh. took (Some (match_any ty)) s 0 [] (none_at old.work.errors.items old.work.errors.items refl) sh (omega arith))

-- a name around a pattern, by what the pattern came to
module _ (x : List ℕ) (at : Position) (old mid : Standing) where
  bound_behind : (new : Standing) (q : TypedPattern) (r : MadeOrLimit TypedPattern) → ((u : Scope) → Shows mid u → Took mid new (bind_step x at (here q u)) r)
      → (t : Step TypedPattern) → Goes old mid t (Ok (Some q)) → Took old new (bind_step x at t) r
  bound_behind new q r next (went_on None u k ws) y = absurd (none-some q y.0)
  bound_behind new q r next (went_on (Some p) u k ws) y =
      subst (λ (v : TypedPattern). Took old new (bind_step x at (went_on (Some v) u k ws)) r) (sym (same_Some p q y.0))
      (later old mid new (Some (match_bind (pattern_type q) (length u.vars) q)) (bound u x (pattern_type q)) k ws (unless (not (is_some (var_of u x))) (rebound x) at) y.1 y.3 r
      (seen mid new (bind_step x at (here q u)) r (next u y.2)))
  bound_behind new q r next (stopped l u ws) y = absurd y

  nothing_bound : (t : Step TypedPattern) → Goes old mid t (Ok None) → Took old mid (bind_step x at t) (Ok None)
  nothing_bound (went_on None u k ws) y = took None u k ws y.1 y.2 y.3
  nothing_bound (went_on (Some p) u k ws) y = absurd (none-some p (sym y.0))
  nothing_bound (stopped l u ws) y = absurd y

  bound_ended : (l : NamedLimit) (t : Step TypedPattern) → Goes old mid t (Err l) → Took old mid (bind_step x at t) (Err l)
  bound_ended l (went_on m u k ws) y = absurd y
  bound_ended l (stopped j u ws) y = subst (λ (i : NamedLimit). Took {Q = TypedPattern} old mid (stopped j u ws) (Err i)) y.0 (ended j u ws y.1 y.2)

module _ (env : TermEnv) (old mid : Standing) (multi : Bool) (x : Name) (of : PatternTree) (at : Position) (ty d : ℕ) where
  pub around_ends : (new : Standing) → Keeps old.tyenv mid.tyenv → (q : TypedPattern) (r : MadeOrLimit TypedPattern) → EndsAs env old mid (pattern_steps multi of ty d) (Ok (Some q))
      → EndsAs env mid new (around_steps x.text at q) r → EndsAs env old new (pattern_steps multi (bind_pattern x of at) ty d) r
  around_ends new keeps q r h k = (
    may_both old.work.errors.items mid.work.errors.items new.work.errors.items h.0 k.0,
    λ e s is sh.
        let t : Step TypedPattern = pattern_steps multi of ty d e old.work.expansions s in
        bound_behind x.text at old mid new q r (λ u shown. k.1 e u (keep_setting env old.tyenv mid.tyenv e keeps is) shown) t (seen old mid t (Ok (Some q)) (h.1 e s is sh)),
  )

  pub around_nothing : EndsAs env old mid (pattern_steps multi of ty d) (Ok None) → EndsAs env old mid (pattern_steps multi (bind_pattern x of at) ty d) (Ok None)
  around_nothing h = (h.0, λ e s is sh. let t : Step TypedPattern = pattern_steps multi of ty d e old.work.expansions s in nothing_bound x.text at old mid t (seen old mid t (Ok None) (h.1 e s is sh)))

  around_ended : (l : NamedLimit) → EndsAs env old mid (pattern_steps multi of ty d) (Err l) → EndsAs env old mid (pattern_steps multi (bind_pattern x of at) ty d) (Err l)
  around_ended l h = (h.0, λ e s is sh. let t : Step TypedPattern = pattern_steps multi of ty d e old.work.expansions s in bound_ended x.text at old mid l t (seen old mid t (Err l) (h.1 e s is sh)))

  pub around_stops : (stop : Stop) → StopsBy env old mid (pattern_steps multi of ty d) stop → StopsBy env old mid (pattern_steps multi (bind_pattern x of at) ty d) stop
  around_stops (Memory a) h = tt
  around_stops Nesting h = around_ended of_nesting h
  around_stops Expansions h = around_ended of_expansions h

  pub around_takes : (new : Standing) → Keeps old.tyenv mid.tyenv → (q : TypedPattern) → EndsAs env old mid (pattern_steps multi of ty d) (Ok (Some q)) → (r : Result (Option Pattern) Stop)
      → Takes env mid new (around_steps x.text at q) (option_map pattern_view) r → Takes env old new (pattern_steps multi (bind_pattern x of at) ty d) (option_map pattern_view) r
  around_takes new keeps q h (Ok m) k = around_ends new keeps q (Ok (option_map pattern_view m)) h k
  around_takes new keeps q h (Err (Memory a)) k = tt
  around_takes new keeps q h (Err Nesting) k = around_ends new keeps q (Err of_nesting) h k
  around_takes new keeps q h (Err Expansions) k = around_ends new keeps q (Err of_expansions) h k
