-- Which scope is shown after a name was met or bound.
use Rattle.std.proofs.Common.{◌≡◌, ℕ, ◌<◌, true, List, length, Option, Some, sym, ap, ◌∙◌, arith, inl, inr}
use Rattle.std.proofs.lemmas.Bool.{cases_Bool, eqb-true}
use Rattle.std.proofs.lemmas.List.{length-map}
use Rattle.std.proofs.lemmas.Grind.{common_steps}
use Rattle.model.specs.lists.Names.{number, has_name, with_name}
use Rattle.model.specs.rules.Typed.{TypedVar}
use Rattle.model.specs.lists.Setting.{Scope, new_var, var_named, met, bound, var_of}
use Rattle.model.proofs.Names.{last, known_name, number_new, has_new, number_below}
use Rattle.core_types.proofs.WellFormedEnvs.{longer}
use Rattle.core_types.specs.Envs.{names_of}
use Rattle.core_typed.specs.RuleViews.{var_view}
use Rattle.core_rules.specs.Progress.{newest, BindsNext, Remains}
use Rattle.core_rules.specs.ShownSettings.{Standing, Shows}

-- a text whose number is that of a name that was met is this name
pub is_met : (ns : List (List ℕ)) (x : List ℕ) → number ns x < length ns → has_name ns x ≡ true
is_met ns x h = elim (cases_Bool (has_name ns x)) [ inl there ↦ there | inr none ↦ absurd (let e = last ns x none in omega (arith, e, h)) ]

-- where at most errors were noted the scope is that before
pub still : (old new : Standing) (s : Scope) → names_of new.tyenv ≡ names_of old.tyenv → Remains old.work new.work → Shows old s → Shows new s
still old new s same r sh = grind (arith, common_steps)

-- a name was met
pub met_shows : (old new : Standing) (s : Scope) (x : List ℕ) → names_of new.tyenv ≡ with_name (names_of old.tyenv) x → Remains old.work new.work → Shows old s → Shows new (met s x)
met_shows old new s x names r sh = grind (arith, common_steps, longer)

-- the variable of a name is the newest one of it
pub var_is : (at : Standing) (s : Scope) (x : List ℕ) (o : Option TypedVar) → Shows at s → o ≡ newest at.work (number (names_of at.tyenv) x) → var_of s x ≡ o
var_is at s x o sh h = ap (λ ns. var_named (number ns x) s.visible) (sym sh.names) ∙ sym (sh.visible (number (names_of at.tyenv) x)) ∙ sym h

-- it was met
pub var_met : (at : Standing) (s : Scope) (x : List ℕ) (v : TypedVar) → Shows at s → Some v ≡ newest at.work (number (names_of at.tyenv) x) → with_name (names_of at.tyenv) x ≡ names_of at.tyenv
var_met at s x v sh h = known_name (names_of at.tyenv) x (is_met (names_of at.tyenv) x (sh.met (number (names_of at.tyenv) x) v (sym h)))

-- there are as many variables as were bound
pub as_many : (at : Standing) (s : Scope) → Shows at s → length at.work.seen.items ≡ length s.vars
as_many at s sh = sym (length-map at.work.seen.items var_view) ∙ ap length sh.vars

-- a name was bound
module _ (old new : Standing) (s : Scope) (x : List ℕ) (ty : ℕ) (sh : Shows old s) where
  abbrev n : ℕ
  n = number (names_of old.tyenv) x

  abbrev v : TypedVar
  v = new_var s.vars (number (with_name s.names x) x) ty

  pub bound_shows : names_of new.tyenv ≡ with_name (names_of old.tyenv) x → BindsNext n ty old.work new.work → Shows new (bound s x ty)
  bound_shows names b = grind (arith, common_steps, eqb-true, number_new, number_below, has_new, longer)
