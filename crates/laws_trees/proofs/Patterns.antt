-- A pattern holds of a site's value exactly where what its visit asks is met.
use Rattle.std.proofs.Common.{◌≡◌, ℕ, ◌+◌, ◌==◌, Bool, true, false, ◌&&◌, cond, List, [], ◌∷◌, Option, Some, None, is_some, slice_get, refl, sym, ap, subst, ◌∙◌, inl, inr, eq-eqb, eqb-true, arith}
use Rattle.std.proofs.lemmas.Bool.{and_parts, cases_Bool, cond-true, cond-false, false≢true}
use Rattle.std.proofs.lemmas.Grind.{common_steps}
use Rattle.model.specs.lists.Tables.{Flags, TermEntry}
use Rattle.model.specs.lists.Ranges.{is_literal_of}
use Rattle.model.specs.rules.Values.{Value, truth, atom, of_variant, of_struct, Values, no_value, value_and, listed, all_well_typed, variant_types, struct_types}
use Rattle.model.specs.rules.Meaning.{Content, one, just, bool_literal, int_literal, literal_value, constant_value, extractor_answer, answered_outputs, look}
use Rattle.model.specs.rules.Outcome.{then_option}
use Rattle.model.specs.rules.Matching.{parts_seen}
use Rattle.model.specs.rules.Program.{Program, Kind, a_variant, a_struct, a_call, unknown, kind, kind_of}
use Rattle.model.specs.rules.Typed.{TypedPattern, match_bind, match_var, match_bool, match_int, match_prim, match_term, match_any, match_and, TypedPatterns, no_typed_pattern, typed_pattern_and}
use Rattle.model.specs.rules.Picks.{picked, taken_answer, field_of_variant, field_of_struct, part_of_some, Sited, SitedVars, sited, input_sites, parts_under, holds_under, each_holds_under, all_hold_under}
use Rattle.model.specs.trees.Run.{from_value, content_fields, all_one}
use Rattle.model.specs.sites.Sites.{Constraint, is_variant, is_struct, is_bool, is_int, is_prim, is_present, SiteTerm, extractor_call, pick_of, variant_field, struct_field, some_part, fields_from, field_terms}
use Rattle.model.specs.visits.Demands.{fields_opened, Visit, making, asking, iterating, binding, pattern_count, Opened, output_sites, open_call, open_term, visit_pattern, visit_each, visit_all, outputs_opened, fields_matched, counting}
use Rattle.model.specs.sites.Serves.{constant_type, term_args, fits_one, fits_answer, fits_extractor}
use Rattle.model.specs.lists.Setting.{bool_type}
use Rattle.model.specs.lists.Formed.{pattern_type, var_type, is_type, formed_pattern, formed_parts, formed_each}
use Rattle.model.proofs.Elements.{in_right, some_is, none_some}
use Rattle.model.proofs.Options.{is_there, some_then}
use Rattle.laws_sites.proofs.PatternParts.{AsMany, pattern_parts, from_part, from_bind, pattern_within, parts_within, each_within, as_many, outside}
use Rattle.laws_sites.proofs.Patterns.{its_kind, from_then, term_known}
use Rattle.laws_trees.proofs.Contents.{Given, content_of, Here, AreHere, IsAnswered, has_value, maybe_fits, picked_fits, fits_answered, fields_here, PutOut, put_out}
use Rattle.laws_trees.proofs.Demanded.{one_not_just, AreMet, AskEnough, same_content, here_typed, met_asking, asked_now, IsBound, AreBound, bound_kept, After, then_after, unbound, constant_after, var_after}
use Rattle.laws_sites.proofs.GrowingVisits.{Grown, then_grown, grown_asking, grown_iterating, each_grown, all_grown, outputs_grown, grown_by_none}
use Rattle.laws_typing.specs.WellTypedPrograms.{HasTypedParts}
use Rattle.laws_typing.proofs.WellTypedPrograms.{variant_takes, struct_takes}
use Rattle.laws_trees.proofs.Variables.{here_valued, var_bound, not_among}
use Rattle.laws_typing.proofs.FormedParts.{from_if, type_is}

-- a term's pattern, opened
-- the parts are seen exactly where what opening asks is met, each at its site
record Opens (g : Given) (v : Visit) (o : Opened) (tys : List ℕ) (seen : Option Values) : Type 0 where
  binds : o.visit.vars ≡ v.vars
  met : AreMet g v.demands → (ws : Values) → seen ≡ Some ws → AreMet g o.visit.demands
  found : AskEnough g o.visit.demands → (ws : Values) × (seen ≡ Some ws)
  inputs : (ws : Values) → seen ≡ Some ws → AreHere g o.inputs tys ws

both_there : {X Y : Type 0} (b : Bool) (x : X) (y : Y) → is_some (cond b (Some x) None) ≡ is_some (cond b (Some y) None)
both_there b x y = grind (arith, common_steps)

-- where a constraint is asked that is met exactly where the parts are seen
asked_opens : (g : Given) (v : Visit) (n : ℕ) (s : SiteTerm) (c : Constraint) (ty : ℕ) (x : Value) (tys : List ℕ) (seen : Option Values) → Here g s ty x
    → is_some (content_fields g.meaning c (one x)) ≡ is_some seen → ((ws : Values) → seen ≡ Some ws → AreHere g (field_terms c s) tys ws) → Opens g v (fields_opened c n s v) tys seen
asked_opens g v n s c ty x tys seen h q i = record {
  binds = refl;
  met = λ m ws e.
      met_asking g s c (making (field_terms c s) (counting (fields_matched n) v)) (record { content = one x; held = h.content; meets = q ∙ ap is_some e }) (here_typed g s ty x h)
      (record { asked = m.asked; equal = m.equal });
  found = λ a.
      (let m = a.asked (s, c) (asked_now s c (making (field_terms c s) (counting (fields_matched n) v))) in
      let same = same_content g s m.content (one x) m.held h.content in
      is_there seen (sym q ∙ sym (ap (λ d. is_some (content_fields g.meaning c d)) same) ∙ m.meets));
  inputs = i;
}

variant_opens : (g : Given) (v : Visit) (s : SiteTerm) (ty i t : ℕ) (args : TypedPatterns) (tys : List ℕ) (x : Value) → AsMany args tys → variant_types (slice_get g.program.types ty) i ≡ Some tys → Here g s ty x
    → Opens g v (open_term (a_variant ty i) t s args v) tys (parts_seen (a_variant ty i) g.meaning t x)
variant_opens g v s ty i t args tys x n k h = asked_opens g v (pattern_count args) s (is_variant ty i (pattern_count args)) ty x tys (parts_seen (a_variant ty i) g.meaning t x) h (same x) (each x h)
  where
    same : (y : Value) → is_some (content_fields g.meaning (is_variant ty i (pattern_count args)) (one y)) ≡ is_some (parts_seen (a_variant ty i) g.meaning t y)
    same (of_variant u j fields) = both_there ((u == ty) && (j == i)) (all_one (listed fields)) fields
    same (of_struct u fields) = refl
    same (truth b) = refl
    same (atom u z) = refl

    each : (y : Value) → Here g s ty y → (ws : Values) → parts_seen (a_variant ty i) g.meaning t y ≡ Some ws → AreHere g (fields_from (variant_field s i) 0 (pattern_count args)) tys ws
    each (of_variant u j fields) w ws e =
        let a = from_if ((u == ty) && (j == i)) (Some fields) ws e in
        let b = and_parts (u == ty) (j == i) a.0 in
        let c = (and_parts (u == ty) (all_well_typed g.program.types (variant_types (slice_get g.program.types ty) j) fields) w.typed).1 in
        let d : all_well_typed g.program.types (Some tys) fields ≡ true = subst (λ o. all_well_typed g.program.types o fields ≡ true) (ap (variant_types (slice_get g.program.types ty)) (eqb-true j i b.1) ∙ k) c in
        subst (AreHere g (fields_from (variant_field s i) 0 (pattern_count args)) tys) (some_is fields ws a.1)
        (fields_here g (variant_field s i) 0 args tys fields n d
        (λ l y q.
        ap (λ o. then_option o (field_of_variant i (0 + l))) (has_value g s (of_variant u j fields) w.content)
        ∙ cond-true (j == i) (from_value (slice_get (listed fields) (0 + l))) None b.1
        ∙ ap from_value (let z : 0 + l ≡ l = omega arith in ap (slice_get (listed fields)) z ∙ q)))
    each (of_struct u fields) w ws e = absurd (none_some ws e)
    each (truth b) w ws e = absurd (none_some ws e)
    each (atom u z) w ws e = absurd (none_some ws e)

struct_opens : (g : Given) (v : Visit) (s : SiteTerm) (ty t : ℕ) (args : TypedPatterns) (tys : List ℕ) (x : Value) → AsMany args tys → struct_types (slice_get g.program.types ty) ≡ Some tys → Here g s ty x
    → Opens g v (open_term (a_struct ty) t s args v) tys (parts_seen (a_struct ty) g.meaning t x)
struct_opens g v s ty t args tys x n k h = asked_opens g v (pattern_count args) s (is_struct ty (pattern_count args)) ty x tys (parts_seen (a_struct ty) g.meaning t x) h (same x) (each x h)
  where
    same : (y : Value) → is_some (content_fields g.meaning (is_struct ty (pattern_count args)) (one y)) ≡ is_some (parts_seen (a_struct ty) g.meaning t y)
    same (of_struct u fields) = both_there (u == ty) (all_one (listed fields)) fields
    same (of_variant u j fields) = refl
    same (truth b) = refl
    same (atom u z) = refl

    each : (y : Value) → Here g s ty y → (ws : Values) → parts_seen (a_struct ty) g.meaning t y ≡ Some ws → AreHere g (fields_from (struct_field s) 0 (pattern_count args)) tys ws
    each (of_struct u fields) w ws e =
        let a = from_if (u == ty) (Some fields) ws e in
        let c = (and_parts (u == ty) (all_well_typed g.program.types (struct_types (slice_get g.program.types ty)) fields) w.typed).1 in
        let d : all_well_typed g.program.types (Some tys) fields ≡ true = subst (λ o. all_well_typed g.program.types o fields ≡ true) k c in
        subst (AreHere g (fields_from (struct_field s) 0 (pattern_count args)) tys) (some_is fields ws a.1)
        (fields_here g (struct_field s) 0 args tys fields n d
        (λ l y q.
        ap (λ o. then_option o (field_of_struct (0 + l))) (has_value g s (of_struct u fields) w.content)
        ∙ ap from_value (let z : 0 + l ≡ l = omega arith in ap (slice_get (listed fields)) z ∙ q)))
    each (of_variant u j fields) w ws e = absurd (none_some ws e)
    each (truth b) w ws e = absurd (none_some ws e)
    each (atom u z) w ws e = absurd (none_some ws e)

-- where the parts are seen without being asked for
sure_opens : (g : Given) (v : Visit) (o : Opened) (tys : List ℕ) (seen : Option Values) (vs : Values) → o.visit.vars ≡ v.vars → o.visit.demands.constraints ≡ v.demands.constraints → o.visit.demands.equalities ≡ v.demands.equalities
    → seen ≡ Some vs → AreHere g o.inputs tys vs → Opens g v o tys seen
sure_opens g v o tys seen vs b c q e h = grind (arith, common_steps, some_is)

module _ (g : Given) (z : Visit) (h : IsAnswered g z.demands) (parts : HasTypedParts g.program) where
  abbrev p : Program
  p = g.program

  abbrev call_parts : Bool → ℕ → SiteTerm → Value → Option Values
  call_parts multi t s x = then_option (then_option (extractor_answer g.meaning t x) (taken_answer multi g.pick (extractor_call t s))) answered_outputs

  -- a term whose parts a pattern takes: its entry, the value at the site, and the patterns of the parts
  record TermTaken : Type 0 where
    term : ℕ
    entry : TermEntry
    there : slice_get p.terms term ≡ Some entry
    site : SiteTerm
    value : Value
    ty : ℕ
    here : Here g site ty value
    args : TypedPatterns
    many : AsMany args entry.arg_tys

  module _ (of : TermTaken) (v : Visit) where
    abbrev t : ℕ
    t = of.term

    abbrev e : TermEntry
    e = of.entry

    abbrev there : slice_get p.terms t ≡ Some e
    there = of.there

    abbrev s : SiteTerm
    s = of.site

    abbrev x : Value
    x = of.value

    abbrev ty : ℕ
    ty = of.ty

    abbrev here : Here g s ty x
    here = of.here

    abbrev args : TypedPatterns
    args = of.args

    abbrev n : AsMany args e.arg_tys
    n = of.many

    abbrev call : SiteTerm
    call = extractor_call t s

    call_content : (c : Content) → extractor_answer g.meaning t x ≡ Some c → content_of g call ≡ Some c
    call_content c q = ap (λ o. then_option o (extractor_answer g.meaning t)) (has_value g s x here.content) ∙ q

    fits_sure : (flags : Flags) (c : Content) → kind p t ≡ a_call flags true → fits_extractor p t (kind p t) c ≡ true → fits_answer p flags.multi false e.arg_tys c ≡ true
    fits_sure flags c q f = subst (λ o. fits_answer p flags.multi false (term_args o) c ≡ true) there (subst (λ k. fits_extractor p t k c ≡ true) q f)

    fits_maybe : (flags : Flags) (c : Content) → kind p t ≡ a_call flags false → fits_extractor p t (kind p t) c ≡ true → fits_answer p flags.multi true e.arg_tys c ≡ true
    fits_maybe flags c q f = subst (λ o. fits_answer p flags.multi true (term_args o) c ≡ true) there (subst (λ k. fits_extractor p t k c ≡ true) q f)

    fits_multi : (pure partial rec infallible : Bool) (c : Content) → kind p t ≡ a_call (record { pure = pure; multi = true; partial = partial; rec = rec }) infallible → fits_extractor p t (kind p t) c ≡ true
        → (optional : Bool) × (fits_answer p true optional e.arg_tys c ≡ true)
    fits_multi pure partial rec infallible c q f = grind (arith, common_steps, fits_sure, fits_maybe)

    -- the outputs of a call's answer
    from_outputs : (multi : Bool) (u : SiteTerm) (d : Content) (w : PutOut g u args e.arg_tys d) → then_option (extractor_answer g.meaning t x) (taken_answer multi g.pick call) ≡ Some d → fits_one p e.arg_tys d ≡ true
        → call_parts multi t s x ≡ Some w.values
    from_outputs multi u d w q f = ap (λ o. then_option o answered_outputs) q ∙ fits_answered p e.arg_tys d f ∙ w.out

    -- the outputs of what a call that may answer nothing has answered
    from_just : (u : SiteTerm) (c d : Content) (w : PutOut g u args e.arg_tys d) → extractor_answer g.meaning t x ≡ Some c → c ≡ just d → call_parts false t s x ≡ Some w.values
    from_just u c d w q j = ap (λ o. then_option (then_option o (taken_answer false g.pick call)) answered_outputs) (q ∙ ap Some j) ∙ w.out

    call_opens : (pure multi partial rec infallible : Bool) → kind p t ≡ a_call (record { pure = pure; multi = multi; partial = partial; rec = rec }) infallible
        → Grown (open_call (record { pure = pure; multi = multi; partial = partial; rec = rec }) infallible call args v).visit z
        → Opens g v (open_call (record { pure = pure; multi = multi; partial = partial; rec = rec }) infallible call args v) e.arg_tys (call_parts multi t s x)
    call_opens pure true partial rec infallible q l =
        let made = making (call ∷ (pick_of call ∷ [])) v in
        let o = outputs_opened (pick_of call) args (iterating call made) in
        let k = then_grown made o.visit z (outputs_grown made (iterating call made) (pick_of call) args (grown_iterating call made)) l in
        let c = h.extractors t s x (k.made call (in_right v.demands.made (call ∷ (pick_of call ∷ [])) call (inl refl))) here.content in
        let d = h.picks call (l.calls call (in_right v.demands.iterators (call ∷ []) call (inl refl))) in
        let taken : picked g.pick call c.answer ≡ Some d.0 = sym (ap (λ y. then_option y (picked g.pick call)) (call_content c.answer c.there)) ∙ d.1 in
        let m = fits_multi pure partial rec infallible c.answer q c.right in
        let f = picked_fits p m.0 e.arg_tys g.pick call c.answer d.0 m.1 taken in
        let w = put_out g (pick_of call) args e.arg_tys d.0 n f d.1 in
        sure_opens g v o e.arg_tys (call_parts true t s x) w.values refl refl refl
        (from_outputs true (pick_of call) d.0 w (ap (λ y. then_option y (taken_answer true g.pick call)) c.there ∙ taken) f) w.here
    call_opens pure false partial rec true q l =
        let made = making (call ∷ []) v in
        let o = outputs_opened call args made in
        let k = then_grown made o.visit z (outputs_grown made made call args (grown_by_none made)) l in
        let c = h.extractors t s x (k.made call (in_right v.demands.made (call ∷ []) call (inl refl))) here.content in
        let f = fits_sure (record { pure = pure; multi = false; partial = partial; rec = rec }) c.answer q c.right in
        let w = put_out g call args e.arg_tys c.answer n f (call_content c.answer c.there) in
        sure_opens g v o e.arg_tys (call_parts false t s x) w.values refl refl refl
        (from_outputs false call c.answer w (ap (λ y. then_option y (taken_answer false g.pick call)) c.there) f) w.here
    call_opens pure false partial rec false q l =
        let made = making (call ∷ (some_part call ∷ [])) v in
        let asked = asking call is_present made in
        let o = outputs_opened (some_part call) args asked in
        let k = then_grown made o.visit z (outputs_grown made asked (some_part call) args (grown_asking call is_present made)) l in
        let c = h.extractors t s x (k.made call (in_right v.demands.made (call ∷ (some_part call ∷ [])) call (inl refl))) here.content in
        let f = fits_maybe (record { pure = pure; multi = false; partial = partial; rec = rec }) c.answer q c.right in
        elim (maybe_fits p e.arg_tys c.answer f) [
          | inl i ↦
              let none : call_parts false t s x ≡ None = ap (λ y. then_option (then_option y (taken_answer false g.pick call)) answered_outputs) (c.there ∙ ap Some i) in
              record {
                binds = refl;
                met = λ a ws j. absurd (none_some ws (sym none ∙ j));
                found = λ a.
                    (let b = a.asked (call, is_present) (asked_now call is_present made) in
                    let same = same_content g call b.content c.answer b.held (call_content c.answer c.there) in
                    absurd (false≢true (ap (λ y. is_some (content_fields g.meaning is_present y)) (sym i ∙ sym same) ∙ b.meets)));
                inputs = λ ws j. absurd (none_some ws (sym none ∙ j));
              }
          | inr d ↦
              let part : content_of g (some_part call) ≡ Some d.0 = ap (λ y. then_option y part_of_some) (call_content c.answer c.there ∙ ap Some d.1) in
              let w = put_out g (some_part call) args e.arg_tys d.0 n d.2 part in
              let seen : call_parts false t s x ≡ Some w.values = from_just (some_part call) c.answer d.0 w c.there d.1 in
              record {
                binds = refl;
                met = λ a ws j.
                    (let b = met_asking g call is_present made
                    (record { content = just d.0; held = call_content c.answer c.there ∙ ap Some d.1; meets = refl })
                    (λ y i. absurd (one_not_just y d.0 (same_content g call (one y) (just d.0) i (call_content c.answer c.there ∙ ap Some d.1))))
                    (record { asked = a.asked; equal = a.equal }) in
                    record { asked = b.asked; equal = b.equal });
                found = λ a. (w.values, seen);
                inputs = λ ws j. subst (AreHere g (output_sites (some_part call) args) e.arg_tys) (some_is w.values ws (sym seen ∙ j)) w.here;
              }
        ]

    term_opens : (k : Kind) → kind p t ≡ k → kind_of e ≡ k → e.ret_ty ≡ ty → Grown (open_term k t s args v).visit z → Opens g v (open_term k t s args v) e.arg_tys (parts_under k g.meaning g.pick t s x)
    term_opens (a_variant u i) q w r l = grind (arith, common_steps, variant_takes p parts t e there u i w, variant_opens g v s u i t args e.arg_tys x n)
    term_opens (a_struct u) q w r l = grind (arith, common_steps, struct_takes p parts t e there u w, struct_opens g v s u t args e.arg_tys x n)
    term_opens (a_call flags infallible) q w r l = call_opens flags.pure flags.multi flags.partial flags.rec infallible q l
    term_opens unknown q w r l = absurd (term_known p t e there q)

  same_inputs : (k : Kind) (t : ℕ) (s : SiteTerm) (args : TypedPatterns) (v : Visit) → (open_term k t s args v).inputs ≡ input_sites k t s args
  same_inputs k t s args v = grind (arith, common_steps)

  -- 3. patterns
  -- the parts of a term, after it was opened
  opened_after : (more : List (ℕ × ℕ)) (e : SitedVars) (v w : Visit) (o : Opened) (tys : List ℕ) (seen : Option Values) (f : Values → Option SitedVars) → Opens g v o tys seen → Grown o.visit w
      → ((ws : Values) → seen ≡ Some ws → After g more e o.visit w (f ws)) → After g more e v w (then_option seen f)
  opened_after more e v w o tys seen f a l b = record {
    met = λ m e' q. (let r = from_then seen f e' q in (b r.0 r.1).met (a.met m r.0 r.1) e' r.2);
    found = λ m.
        (let r = a.found (record { asked = λ y i. m.asked y (l.asked y i); equal = λ y i. m.equal y (l.equal y i) }) in
        let c = (b r.0 r.1).found m in
        (c.0, some_then seen f r.0 c.0 r.1 c.1));
    agree = λ e' q. (let r = from_then seen f e' q in (b r.0 r.1).agree e' r.2);
    kept = λ e' q y u i k. (let r = from_then seen f e' q in (b r.0 r.1).kept e' r.2 y u i (subst (λ vs. IsBound g e vs y u) (sym a.binds) k));
  }

  -- a binding, before what is bound in its pattern
  bind_after : (mid : List (ℕ × ℕ)) (e : SitedVars) (v w : Visit) (s : SiteTerm) (x ty : ℕ) (y : Value) (o : Option SitedVars) → is_some (var_type mid x) ≡ false → Here g s ty y
      → After g mid ((x, sited s (Some y)) ∷ e) (binding x s v) w o → After g ((x, ty) ∷ mid) e v w o
  bind_after mid e v w s x ty y o new here a = record {
    met = λ m e' q. a.met m e' q;
    found = a.found;
    agree = λ e' q u t i.
        elim (cases_Bool (x == u)) [
          | inl k ↦
              let same : ty ≡ t = some_is ty t (sym (cond-true (x == u) (Some ty) (var_type mid u) k) ∙ i) in
              subst (λ n. IsBound g e' w.vars n t) (eqb-true x u k) (subst (IsBound g e' w.vars x) same (a.kept e' q x ty new bound))
          | inr k ↦ a.agree e' q u t (sym (cond-false (x == u) (Some ty) (var_type mid u) k) ∙ i)
        ];
    kept = λ e' q u t i b. a.kept e' q u t (mid_outside u i) (other u t (apart u i) b);
  }
    where
      bound : IsBound g ((x, sited s (Some y)) ∷ e) ((x, s) ∷ v.vars) x ty
      bound = record {
        var = var_bound g x ty s s (Some y) e v.vars (here_valued g s ty y here);
        value = y;
        there = ap (λ (q : Option Sited). then_option q (λ c. c.value)) (cond-true (x == x) (Some (sited s (Some y))) (look (λ k. k == x) e) (eq-eqb x x refl));
      }

      apart : (u : ℕ) → is_some (var_type ((x, ty) ∷ mid) u) ≡ false → (x == u) ≡ false
      apart u i =
          elim (cases_Bool (x == u)) [
            | inl k ↦ absurd (false≢true (sym i ∙ ap is_some (cond-true (x == u) (Some ty) (var_type mid u) k)))
            | inr k ↦ k
          ]

      mid_outside : (u : ℕ) → is_some (var_type ((x, ty) ∷ mid) u) ≡ false → is_some (var_type mid u) ≡ false
      mid_outside u i = sym (ap is_some (cond-false (x == u) (Some ty) (var_type mid u) (apart u i))) ∙ i

      other : (u t : ℕ) → (x == u) ≡ false → IsBound g e v.vars u t → IsBound g ((x, sited s (Some y)) ∷ e) ((x, s) ∷ v.vars) u t
      other u t n b = bound_kept g x u t (sited s (Some y)) s e v.vars n b

  mutual
    pub pattern_after : (q : TypedPattern) (s : SiteTerm) (v : Visit) (vars more : List (ℕ × ℕ)) (e : SitedVars) (x : Value) → formed_pattern p q vars ≡ Some more → Here g s (pattern_type q) x → AreBound g vars e v.vars
        → Grown (visit_pattern p q s v) z → After g more e v (visit_pattern p q s v) (holds_under p g.meaning g.pick q s x e)
    pattern_after (match_bind ty y sub) s v vars more e x f here b l =
        let a = from_bind p ty y sub vars more f in
        let w = visit_pattern p sub s (binding y s v) in
        let new : is_some (var_type vars y) ≡ false = outside vars a.0 (pattern_within p sub vars a.0 a.2) y a.3 in
        let r = pattern_after sub s (binding y s v) vars a.0 ((y, sited s (Some x)) ∷ e) x a.2 (subst (λ u. Here g s u x) (sym a.1) here)
        (λ u t i. bound_kept g y u t (sited s (Some x)) s e v.vars (not_among vars y u t new i) (b u t i)) l in
        subst (λ vs. After g vs e v w (holds_under p g.meaning g.pick sub s x ((y, sited s (Some x)) ∷ e))) a.4
        (bind_after a.0 e v w s y ty x (holds_under p g.meaning g.pick sub s x ((y, sited s (Some x)) ∷ e)) a.3 here r)
    pattern_after (match_var ty y) s v vars more e x f here b l =
        let a = from_if (is_type (var_type vars y) ty) (Some vars) more f in
        subst (λ vs. After g vs e v (visit_pattern p (match_var ty y) s v) (holds_under p g.meaning g.pick (match_var ty y) s x e)) (some_is vars more a.1)
        (var_after g vars e v s y ty x here (b y ty (type_is (var_type vars y) ty a.0)) b)
    pattern_after (match_bool ty c) s v vars more e x f here b l =
        subst (λ vs. After g vs e v (visit_pattern p (match_bool ty c) s v) (holds_under p g.meaning g.pick (match_bool ty c) s x e)) (some_is vars more (from_if (ty == bool_type) (Some vars) more f).1)
        (constant_after g vars e v s (is_bool c ty) ty x (literal_value g.meaning (bool_literal c ty)) refl here b)
    pattern_after (match_int ty i) s v vars more e x f here b l =
        subst (λ vs. After g vs e v (visit_pattern p (match_int ty i) s v) (holds_under p g.meaning g.pick (match_int ty i) s x e)) (some_is vars more (from_if (is_literal_of (slice_get p.types ty) i) (Some vars) more f).1)
        (constant_after g vars e v s (is_int i ty) ty x (literal_value g.meaning (int_literal i ty)) refl here b)
    pattern_after (match_prim ty name) s v vars more e x f here b l =
        subst (λ vs. After g vs e v (visit_pattern p (match_prim ty name) s v) (holds_under p g.meaning g.pick (match_prim ty name) s x e)) (some_is vars more (from_if (is_type (constant_type p name) ty) (Some vars) more f).1)
        (constant_after g vars e v s (is_prim name) ty x (constant_value g.meaning name) refl here b)
    pattern_after (match_term ty t args) s v vars more e x f here b l =
        let a = pattern_parts p ty t args vars more f in
        let o = open_term (kind p t) t s args v in
        let w = visit_each p args o.inputs o.visit in
        let k = each_grown p args o.inputs o.visit in
        let u = term_opens (record { term = t; entry = a.entry; there = a.there; site = s; value = x; ty = ty; here = here; args = args; many = as_many p args a.entry.arg_tys vars more a.formed }) v (kind p t) refl
        (its_kind p t a.entry a.there) a.ret (then_grown o.visit w z k l) in
        subst (λ ins. After g more e v w (then_option (parts_under (kind p t) g.meaning g.pick t s x) (λ vs. each_holds_under p g.meaning g.pick args ins vs e))) (same_inputs (kind p t) t s args v)
        (opened_after more e v w o a.entry.arg_tys (parts_under (kind p t) g.meaning g.pick t s x) (λ vs. each_holds_under p g.meaning g.pick args o.inputs vs e) u k
        (λ ws i. each_after args o.inputs a.entry.arg_tys o.visit vars more e ws a.formed (u.inputs ws i) (subst (AreBound g vars e) (sym u.binds) b) l))
    pattern_after (match_any ty) s v vars more e x f here b l =
        subst (λ vs. After g vs e v v (Some e)) (some_is vars more f) (unbound g vars e v v (Some e) refl b (λ e' i. some_is e e' i) (λ m e' i. m) (λ m. refl))
    pattern_after (match_and ty subs) s v vars more e x f here b l = all_after subs s ty v vars more e x f here b l

    each_after : (qs : TypedPatterns) (ss : List SiteTerm) (tys : List ℕ) (v : Visit) (vars more : List (ℕ × ℕ)) (e : SitedVars) (xs : Values) → formed_parts p qs tys vars ≡ Some more → AreHere g ss tys xs → AreBound g vars e v.vars
        → Grown (visit_each p qs ss v) z → After g more e v (visit_each p qs ss v) (each_holds_under p g.meaning g.pick qs ss xs e)
    each_after no_typed_pattern [] [] v vars more e no_value f here b l =
        subst (λ vs. After g vs e v v (Some e)) (some_is vars more f) (unbound g vars e v v (Some e) refl b (λ e' i. some_is e e' i) (λ m e' i. m) (λ m. refl))
    each_after no_typed_pattern [] [] v vars more e (value_and x xs) f here b l = absurd here
    each_after no_typed_pattern (s ∷ ss) [] v vars more e xs f here b l = absurd here
    each_after no_typed_pattern ss (ty ∷ tys) v vars more e xs f here b l = absurd (none_some more f)
    each_after (typed_pattern_and q qs) ss [] v vars more e xs f here b l = absurd (none_some more f)
    each_after (typed_pattern_and q qs) [] (ty ∷ tys) v vars more e xs f here b l = absurd here
    each_after (typed_pattern_and q qs) (s ∷ ss) (ty ∷ tys) v vars more e no_value f here b l = absurd here
    each_after (typed_pattern_and q qs) (s ∷ ss) (ty ∷ tys) v vars more e (value_and x xs) f here b l =
        let a = from_part p q ty vars more (λ mid. formed_parts p qs tys mid) f in
        let u = visit_pattern p q s v in
        let w = visit_each p qs ss u in
        let k = each_grown p qs ss u in
        let r = pattern_after q s v vars a.0 e x a.2 (subst (λ n. Here g s n x) (sym a.1) here.0) b (then_grown u w z k l) in
        then_after g a.0 more e v u w (holds_under p g.meaning g.pick q s x e) (λ e'. each_holds_under p g.meaning g.pick qs ss xs e') r k (parts_within p qs tys a.0 more a.3)
        (λ e' i. each_after qs ss tys u a.0 more e' xs a.3 here.1 (r.agree e' i) l)

    all_after : (qs : TypedPatterns) (s : SiteTerm) (ty : ℕ) (v : Visit) (vars more : List (ℕ × ℕ)) (e : SitedVars) (x : Value) → formed_each p qs ty vars ≡ Some more → Here g s ty x → AreBound g vars e v.vars
        → Grown (visit_all p qs s v) z → After g more e v (visit_all p qs s v) (all_hold_under p g.meaning g.pick qs s x e)
    all_after no_typed_pattern s ty v vars more e x f here b l =
        subst (λ vs. After g vs e v v (Some e)) (some_is vars more f) (unbound g vars e v v (Some e) refl b (λ e' i. some_is e e' i) (λ m e' i. m) (λ m. refl))
    all_after (typed_pattern_and q qs) s ty v vars more e x f here b l =
        let a = from_part p q ty vars more (λ mid. formed_each p qs ty mid) f in
        let u = visit_pattern p q s v in
        let w = visit_all p qs s u in
        let k = all_grown p qs s u in
        let r = pattern_after q s v vars a.0 e x a.2 (subst (λ n. Here g s n x) (sym a.1) here) b (then_grown u w z k l) in
        then_after g a.0 more e v u w (holds_under p g.meaning g.pick q s x e) (λ e'. all_hold_under p g.meaning g.pick qs s x e') r k (each_within p qs ty a.0 more a.3)
        (λ e' i. all_after qs s ty u a.0 more e' x a.3 here (r.agree e' i) l)
