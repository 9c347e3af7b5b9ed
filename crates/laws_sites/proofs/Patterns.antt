-- What patterns constrain and equate may be tested, and so may what their variables stand for, and the calls that they go
-- over.
use Rattle.std.proofs.Common.{◌≡◌, ℕ, zero, suc, ◌+◌, ◌==◌, ◌<◌, Bool, true, false, ◌&&◌, if◌then◌else◌, List, [], ◌∷◌, Some, None, is_some, slice_get, Contains, refl, sym, ap, subst, inl, inr, arith}
use Rattle.std.proofs.lemmas.Grind.{common_steps}
use Rattle.model.specs.rules.Outcome.{then_option}
use Rattle.model.specs.lists.Ranges.{is_literal_of}
use Rattle.model.specs.lists.Tables.{TermEntry}
use Rattle.model.specs.rules.Program.{Program, Kind, a_variant, a_struct, a_call, unknown, kind_of, kind}
use Rattle.model.specs.sites.Serves.{constant_type}
use Rattle.model.specs.sites.Sites.{Constraint, is_variant, is_struct, is_bool, is_int, is_prim, is_present, SiteTerm, extractor_call, pick_of, variant_field, struct_field, some_part, tuple_part, fields_from, field_terms}
use Rattle.model.specs.rules.Typed.{TypedPattern, match_bind, match_var, match_bool, match_int, match_prim, match_term, match_any, match_and, TypedPatterns, no_typed_pattern, typed_pattern_and}
use Rattle.model.specs.visits.Demands.{Visit, making, asking, iterating, binding, pattern_count, Opened, opened, output_sites, part_sites, open_call, open_term, visit_pattern, visit_each, visit_all, outputs_opened, fields_matched, outputs_taken, counting}
use Rattle.model.specs.lists.Setting.{bool_type, has_extractor}
use Rattle.model.specs.lists.Formed.{pattern_type, var_type, is_type, with_new, formed_pattern, formed_parts, formed_each}
use Rattle.model.proofs.Elements.{In, some_is, none_some}
use Rattle.laws_sites.proofs.Calls.{NewCalls, no_call, then_calls, one_call, equating_calls}
use Rattle.laws_sites.proofs.AskedSites.{MayTest, Later, good_stays, now, then_later, later_making, later_binding, later_iterating, later_asking, later_equating, equating_binds, at_right, AreGood, Keeps, keeps_vars, then_keeps, keeps_binding, bound_good, good_and, later_counting}
use Rattle.laws_typing.proofs.FormedParts.{from_if, has_type, has_none}
pub use Rattle.model.proofs.Options.{then_some as from_then}

-- 1. a new variable
pub from_new : (x ty : ℕ) (vars more : List (ℕ × ℕ)) → with_new x ty vars ≡ Some more → (is_some (var_type vars x) ≡ false) × ((x, ty) ∷ vars ≡ more)
from_new x ty vars more e = grind (arith, common_steps, from_if, has_none, some_is)

-- 2. parts of a term's pattern
-- as many sites as patterns
abbrev pub AsManySites : List SiteTerm → TypedPatterns → Type 0
AsManySites [] no_typed_pattern = Unit {0}
AsManySites (s ∷ ss) (typed_pattern_and q qs) = AsManySites ss qs
AsManySites _ _ = ⊥

pub as_many_sites : (f : ℕ → SiteTerm) (i : ℕ) (args : TypedPatterns) → AsManySites (fields_from f i (pattern_count args)) args
as_many_sites f i no_typed_pattern = tt
as_many_sites f i (typed_pattern_and q qs) = as_many_sites f (suc i) qs

-- a term's pattern, opened: the inputs of its parts may be tested, and a call that is gone over
pub record HasTestableParts (v : Visit) (o : Opened) (args : TypedPatterns) : Type 0 where
  pub later : Later v o.visit
  pub binds : o.visit.vars ≡ v.vars
  pub inputs : (u : SiteTerm) → In o.inputs u → MayTest o.visit u
  pub count : AsManySites o.inputs args
  pub calls : NewCalls true true v o.visit

-- one of n fields from i
pub in_fields : (f : ℕ → SiteTerm) (i n : ℕ) (u : SiteTerm) → In (fields_from f i n) u → (j : ℕ) × (j < i + n) × (f j ≡ u)
in_fields f i zero u k = absurd k
in_fields f i (suc n) u (inl e) = (i, omega arith, e)
in_fields f i (suc n) u (inr k) = let r = in_fields f (suc i) n u k in (r.0, let l : r.0 < suc i + n = r.1 in omega arith, r.2)

-- what holds of all fields of a site holds of those that a constraint gives it
pub by_field : (P : SiteTerm → Type 0) (a : SiteTerm) → ((variant i : ℕ) → P (variant_field a variant i)) → ((i : ℕ) → P (struct_field a i)) → (c : Constraint) (x : SiteTerm) → In (field_terms c a) x → P x
by_field P a f g c x i = grind (arith, common_steps, in_fields)

-- what holds of a site and of its parts holds of the outputs of its call
pub by_output : (P : SiteTerm → Type 0) (a : SiteTerm) → P a → ((i : ℕ) → P (tuple_part a i)) → (args : TypedPatterns) (x : SiteTerm) → In (output_sites a args) x → P x
by_output P a one part args x i = grind (arith, common_steps, in_fields)

pub output_count : (s : SiteTerm) (args : TypedPatterns) → AsManySites (output_sites s args) args
output_count s (typed_pattern_and q (typed_pattern_and r rs)) = as_many_sites (tuple_part s) 0 (typed_pattern_and q (typed_pattern_and r rs))
output_count s _ = tt

with_parts : (v w : Visit) (s : SiteTerm) (args : TypedPatterns) → Later v w → w.vars ≡ v.vars → MayTest w s → NewCalls true true v w → HasTestableParts v (outputs_opened s args w) args
with_parts v w s args l e m n =
    let c = outputs_taken (pattern_count args) in
    let x = counting c w in
    let z = making (part_sites s args) x in
    record {
      later = then_later v w z l (then_later w x z (later_counting c w) (later_making (part_sites s args) x));
      binds = e;
      inputs = by_output (MayTest w) s m (λ i. m) args;
      count = output_count s args;
      calls = n;
    }

call_opened : (pure multi partial rec infallible : Bool) (t : ℕ) (s : SiteTerm) (args : TypedPatterns) (v : Visit) → MayTest v s
    → HasTestableParts v (open_call (record { pure = pure; multi = multi; partial = partial; rec = rec }) infallible (extractor_call t s) args v) args
call_opened pure true partial rec infallible t s args v m =
    let call = extractor_call t s in
    let made = making (call ∷ (pick_of call ∷ [])) v in
    let good = good_stays made (iterating call made) (later_iterating call made) true true call m in
    with_parts v (iterating call made) (pick_of call) args
    (then_later v made (iterating call made) (later_making (call ∷ (pick_of call ∷ [])) v) (later_iterating call made)) refl
    (at_right v.demands.iterators call, good) (one_call true true call made good)
call_opened pure false partial rec true t s args v m =
    with_parts v (making (extractor_call t s ∷ []) v) (extractor_call t s) args (later_making (extractor_call t s ∷ []) v) refl m (λ u i. inl i)
call_opened pure false partial rec false t s args v m =
    let call = extractor_call t s in
    let made = making (call ∷ (some_part call ∷ [])) v in
    with_parts v (asking call is_present made) (some_part call) args
    (then_later v made (asking call is_present made) (later_making (call ∷ (some_part call ∷ [])) v) (later_asking call is_present made m)) refl
    (at_right v.demands.constraints (call, is_present), good_stays made (asking call is_present made) (later_asking call is_present made m) true true call m) (λ u i. inl i)

-- a site that is asked for fields
fields_open : (field : ℕ → SiteTerm) (c : Constraint) (s : SiteTerm) (args : TypedPatterns) (v : Visit) → MayTest v s
    → ((w : Visit) (i : ℕ) → Contains w.demands.constraints (s, c) → i < pattern_count args → MayTest w s → MayTest w (field i))
    → HasTestableParts v (opened (fields_from field 0 (pattern_count args)) (asking s c (making (fields_from field 0 (pattern_count args)) (counting (fields_matched (pattern_count args)) v)))) args
fields_open field c s args v m tested =
    let fields = fields_from field 0 (pattern_count args) in
    let n = fields_matched (pattern_count args) in
    let x = counting n v in
    let w = asking s c (making fields x) in
    let l = later_asking s c (making fields x) m in
    record {
      later = then_later v x w (later_counting n v) (then_later x (making fields x) w (later_making fields x) l);
      binds = refl;
      inputs = grind (arith, common_steps, in_fields field 0 (pattern_count args), at_right v.demands.constraints (s, c), good_stays (making fields x) w l true true s m);
      count = as_many_sites field 0 args;
      calls = λ u i. inl i;
    }

pub term_opened : (k : Kind) (t : ℕ) (s : SiteTerm) (args : TypedPatterns) (v : Visit) → (k ≡ unknown → ⊥) → MayTest v s → HasTestableParts v (open_term k t s args v) args
term_opened (a_variant ty variant) t s args v known m = grind (arith, fields_open (variant_field s variant) (is_variant ty variant (pattern_count args)) s args v m)
term_opened (a_struct ty) t s args v known m = grind (arith, common_steps, fields_open (struct_field s) (is_struct ty (pattern_count args)) s args v m)
term_opened (a_call flags infallible) t s args v known m = call_opened flags.pure flags.multi flags.partial flags.rec infallible t s args v m
term_opened unknown t s args v known m = absurd (known refl)

pub its_kind : (p : Program) (t : ℕ) (entry : TermEntry) → slice_get p.terms t ≡ Some entry → kind_of entry ≡ kind p t
its_kind p t entry e = sym (ap (λ o. elim o as (λ _. Kind) [ None ↦ unknown | Some x ↦ kind_of x ]) e)

pub term_known : (p : Program) (t : ℕ) (entry : TermEntry) → slice_get p.terms t ≡ Some entry → kind p t ≡ unknown → ⊥
term_known p t entry e h = grind arith

-- 3. patterns
-- after a pattern: nothing less is asked, variables that could be used may be tested, and so may those that it bound and
-- the calls that it goes over
pub record IsAfter (v w : Visit) (more : List (ℕ × ℕ)) : Type 0 where
  pub later : Later v w
  pub keeps : Keeps v w
  pub good : AreGood true true more w
  pub calls : NewCalls true true v w

pub unbound : (v w : Visit) (vars more : List (ℕ × ℕ)) → Later v w → w.vars ≡ v.vars → AreGood true true vars v → vars ≡ more → NewCalls true true v w → IsAfter v w more
unbound v w vars more l e g same n = grind (arith, common_steps, keeps_vars, AreGood)

pub then_after : (u v w : Visit) (more rest : List (ℕ × ℕ)) → IsAfter u v more → IsAfter v w rest → IsAfter u w rest
then_after u v w more rest a b = record { later = then_later u v w a.later b.later; keeps = then_keeps u v w a.keeps b.keeps; good = b.good; calls = then_calls true true u v w b.later a.calls b.calls }

mutual
  pub pattern_after : (p : Program) (q : TypedPattern) (s : SiteTerm) (v : Visit) (vars more : List (ℕ × ℕ)) → formed_pattern p q vars ≡ Some more → MayTest v s → AreGood true true vars v
      → IsAfter v (visit_pattern p q s v) more
  pattern_after p (match_bind ty x sub) s v vars more f m g =
      let a = from_if (pattern_type sub == ty) (then_option (formed_pattern p sub vars) (with_new x ty)) more f in
      let b = from_then (formed_pattern p sub vars) (with_new x ty) more a.1 in
      let n = from_new x ty b.0 more b.2 in
      let k = keeps_binding x s v m in
      let r = pattern_after p sub s (binding x s v) vars b.0 b.1 m (λ y h. k y (g y h)) in
      let w = visit_pattern p sub s (binding x s v) in
      record {
        later = then_later v (binding x s v) w (later_binding x s v) r.later;
        keeps = then_keeps v (binding x s v) w k r.keeps;
        good = subst (λ vs. AreGood true true vs w) n.1 (good_and true true x ty b.0 w r.good (r.keeps x (bound_good true true x s v m)));
        calls = r.calls;
      }
  pattern_after p (match_var ty x) s v vars more f m g = grind (arith, from_if, unbound, later_equating, has_type, equating_binds, some_is, equating_calls)
  pattern_after p (match_bool ty b) s v vars more f m g =
      unbound v (asking s (is_bool b ty) v) vars more (later_asking s (is_bool b ty) v m) refl g (some_is vars more (from_if (ty == bool_type) (Some vars) more f).1) (λ u i. inl i)
  pattern_after p (match_int ty z) s v vars more f m g =
      unbound v (asking s (is_int z ty) v) vars more (later_asking s (is_int z ty) v m) refl g (some_is vars more (from_if (is_literal_of (slice_get p.types ty) z) (Some vars) more f).1) (λ u i. inl i)
  pattern_after p (match_prim ty name) s v vars more f m g =
      unbound v (asking s (is_prim name) v) vars more (later_asking s (is_prim name) v m) refl g (some_is vars more (from_if (is_type (constant_type p name) ty) (Some vars) more f).1) (λ u i. inl i)
  pattern_after p (match_term ty t args) s v vars more f m g =
      let a = from_then (slice_get p.terms t) (λ (e : TermEntry). if (e.ret_ty == ty) && has_extractor e.kind then formed_parts p args e.arg_tys vars else None) more f in
      let b = from_if ((a.0.ret_ty == ty) && has_extractor a.0.kind) (formed_parts p args a.0.arg_tys vars) more a.2 in
      let o = term_opened (kind p t) t s args v (term_known p t a.0 a.1) m in
      let w = (open_term (kind p t) t s args v).visit in
      let u = unbound v w vars vars o.later o.binds g refl o.calls in
      then_after v w (visit_each p args (open_term (kind p t) t s args v).inputs w) vars more u
      (each_after p args (open_term (kind p t) t s args v).inputs w a.0.arg_tys vars more b.1 o.count o.inputs u.good)
  pattern_after p (match_any ty) s v vars more f m g = unbound v v vars more (now v) refl g (some_is vars more f) (no_call true true v)
  pattern_after p (match_and ty subs) s v vars more f m g = all_after p subs s v ty vars more f m g

  each_after : (p : Program) (qs : TypedPatterns) (ss : List SiteTerm) (v : Visit) (tys : List ℕ) (vars more : List (ℕ × ℕ)) → formed_parts p qs tys vars ≡ Some more → AsManySites ss qs
      → ((u : SiteTerm) → In ss u → MayTest v u) → AreGood true true vars v → IsAfter v (visit_each p qs ss v) more
  each_after p (typed_pattern_and q qs) (s ∷ ss) v (ty ∷ tys) vars more f n h g =
      let a = from_if (pattern_type q == ty) (then_option (formed_pattern p q vars) (λ after. formed_parts p qs tys after)) more f in
      let b = from_then (formed_pattern p q vars) (λ after. formed_parts p qs tys after) more a.1 in
      let r = pattern_after p q s v vars b.0 b.1 (h s (inl refl)) g in
      let w = visit_pattern p q s v in
      then_after v w (visit_each p qs ss w) b.0 more r
      (each_after p qs ss w tys b.0 more b.2 n (λ u i. good_stays v w r.later true true u (h u (inr i))) r.good)
  each_after p k ss v j vars more f n h g = grind (arith, common_steps, unbound, now, some_is, no_call, none_some)

  all_after : (p : Program) (qs : TypedPatterns) (s : SiteTerm) (v : Visit) (ty : ℕ) (vars more : List (ℕ × ℕ)) → formed_each p qs ty vars ≡ Some more
      → MayTest v s → AreGood true true vars v → IsAfter v (visit_all p qs s v) more
  all_after p no_typed_pattern s v ty vars more f m g = unbound v v vars more (now v) refl g (some_is vars more f) (no_call true true v)
  all_after p (typed_pattern_and q qs) s v ty vars more f m g =
      let a = from_if (pattern_type q == ty) (then_option (formed_pattern p q vars) (λ after. formed_each p qs ty after)) more f in
      let b = from_then (formed_pattern p q vars) (λ after. formed_each p qs ty after) more a.1 in
      let r = pattern_after p q s v vars b.0 b.1 m g in
      let w = visit_pattern p q s v in
      then_after v w (visit_all p qs s w) b.0 more r (all_after p qs s w ty b.0 more b.2 (good_stays v w r.later true true s m) r.good)
