-- Moves in place of clones: the code says the same, and moves well.
use Rattle.std.proofs.Common.{◌≡◌, ◌&&◌, ◌||◌, ◌++◌, ◌∷◌, [], ℕ, Bool, true, false, not, List, Option, Some, refl, sym, ap, ◌∙◌, subst, arith}
use Rattle.std.proofs.lemmas.Bool.{and_parts, and_from}
use Rattle.std.proofs.lemmas.Grind.{common_steps}
use Rattle.model.specs.rules.Values.{value_and}
use Rattle.model.specs.rules.Meaning.{Content}
use Rattle.model.specs.rules.Outcome.{then_option}
use Rattle.model.specs.trees.Places.{is_in, field_sites}
use Rattle.model.specs.trees.Run.{World, Env, bound_to, Trace, content_fields}
use Rattle.model_code.specs.Code.{Place, variable, PlaceUse, Block, no_statement, statement, Statement, bind, bind_some, match_on, if_equal, for_each_of, give, labelled, unless_let, CodeArms, no_code_arm, code_arm}
use Rattle.model_code.specs.CodeRuns.{held, held_value, held_values, goes_on, then_flow, in_braces, in_label, on_content, where_met, where_equal, on_answers, run_block, run_statement, run_code_arms}
use Rattle.model_code.specs.Scopes.{knows, knows_all, scope_after, unless_ended, block_scoped, statement_scoped, arms_scoped}
use Rattle.model_code.specs.Modes.{Types, is_value, Given, given, fits_value, fits_equal, fits_pattern, fits_fields, fit_values, block_fits, statement_fits, arms_fit}
use Rattle.model_code.specs.Moves.{other, others, fresh_after, block_takes, statement_takes, arms_take}
use Rattle.model_code.specs.MovedOnce.{touches, any_touch, is_of, read_behind, block_reads, statement_reads, arms_read, may_move, moves_well, beside, all_move_well, unlooked, movable_after, behind, around_loop, read_no_more, block_moves, statement_moves, arms_move}
use Rattle.model_code.specs.Saving.{saved_use, all_saved, saved, saved_at, saved_arms, WithMovesSaysSame, WithMovesIsMadeWell}

both : {a b x y : Bool} → a ≡ b → x ≡ y → (a && x) ≡ (b && y)
both e f = λ i. e i && f i

one_of : {a b x y : Bool} → a ≡ b → x ≡ y → (a || x) ≡ (b || y)
one_of e f = λ i. e i || f i

module _ (types : Types) where
  -- 1. statements bind and end as before
  after_same : (s : Statement) (inside : List ℕ) (later : Place → Bool) (scope : List ℕ) → scope_after scope (saved_at types inside later s) ≡ scope_after scope s
  after_same s inside later scope = grind (arith, common_steps)

  movable_same : (s : Statement) (inside : List ℕ) (later : Place → Bool) (movable : List ℕ) → movable_after movable (saved_at types inside later s) ≡ movable_after movable s
  movable_same s inside later movable = grind (arith, common_steps)

  fresh_same : (s : Statement) (inside : List ℕ) (later : Place → Bool) (fresh : List ℕ) → fresh_after fresh (saved_at types inside later s) ≡ fresh_after fresh s
  fresh_same s inside later fresh = grind (arith, common_steps)

  behind_same : (q : Place) (s : Statement) (inside : List ℕ) (later : Place → Bool) (x : Bool) → read_behind q (saved_at types inside later s) x ≡ read_behind q s x
  behind_same q s inside later x = grind (arith, common_steps)

  -- 2. the run
  module _ (w : World) (most : Option ℕ) where
    values_run : (inside : List ℕ) (later : Place → Bool) (env : Env) (before us : List PlaceUse) → held_values w env (all_saved types inside later before us) ≡ held_values w env us
    values_run inside later env before [] = refl
    values_run inside later env before (u ∷ us) = λ i. then_option (held_value w env u) (λ v. then_option (values_run inside later env (u ∷ before) us i) (λ vs. Some (value_and v vs)))

    mutual
      block_runs : (b : Block) (inside : List ℕ) (after : Place → Bool) (env : Env) (t : Trace) → run_block (saved types inside after b) w most env t ≡ run_block b w most env t
      block_runs no_statement inside after env t = refl
      block_runs (statement s rest) inside after env t = λ i. then_flow (statement_runs s inside (behind s rest after) env t i) (λ env' t'. block_runs rest (movable_after inside s) after env' t' i)

      statement_runs : (s : Statement) (inside : List ℕ) (later : Place → Bool) (env : Env) (t : Trace) → run_statement (saved_at types inside later s) w most env t ≡ run_statement s w most env t
      statement_runs (bind v e) inside later env t = grind (arith, values_run)
      statement_runs (match_on u arms) inside later env t = λ i. in_braces env (on_content (held w env u.place) t (λ c. arms_run arms (unlooked inside u.place) later c env t i))
      statement_runs (if_equal a b body) inside later env t = λ i. in_braces env (where_equal (held_value w env a) (held_value w env b) t (block_runs body inside later env t i) (goes_on env t))
      statement_runs (for_each_of v from body) inside later env t = λ i. on_answers (bound_to env from) (λ c t'. block_runs body (v ∷ []) read_no_more ((v, c) ∷ env) t' i) env t
      statement_runs (labelled body) inside later env t = λ i. in_label env (block_runs body inside later env t i)
      statement_runs s inside later env t = refl

      arms_run : (arms : CodeArms) (inside : List ℕ) (later : Place → Bool) (c : Content) (env : Env) (t : Trace) → run_code_arms (saved_arms types inside later arms) w most c env t ≡ run_code_arms arms w most c env t
      arms_run no_code_arm inside later c env t = refl
      arms_run (code_arm pattern fields body rest) inside later c env t =
          λ i. where_met (content_fields w.meaning pattern c) fields env t (λ env'. block_runs body (field_sites fields ++ inside) later env' t i) (arms_run rest inside later c env t i)

  -- 3. scopes
  all_known : (scope inside : List ℕ) (later : Place → Bool) (before us : List PlaceUse) → knows_all scope (all_saved types inside later before us) ≡ knows_all scope us
  all_known scope inside later before [] = refl
  all_known scope inside later before (u ∷ us) = ap (λ b. knows scope u.place && b) (all_known scope inside later (u ∷ before) us)

  mutual
    block_known : (b : Block) (label : Bool) (scope inside : List ℕ) (after : Place → Bool) → block_scoped label scope (saved types inside after b) ≡ block_scoped label scope b
    block_known no_statement label scope inside after = refl
    block_known (statement s rest) label scope inside after =
        let later = behind s rest after in
        let more = saved types (movable_after inside s) after rest in
        both (statement_known s label scope inside later)
        (grind (arith, common_steps, block_known rest label (scope_after scope s) (movable_after inside s) after, after_same))

    statement_known : (s : Statement) (label : Bool) (scope inside : List ℕ) (later : Place → Bool) → statement_scoped label scope (saved_at types inside later s) ≡ statement_scoped label scope s
    statement_known (match_on u arms) label scope inside later = ap (λ b. knows scope u.place && b) (arms_known arms label scope (unlooked inside u.place) later)
    statement_known (if_equal a b body) label scope inside later = ap (λ x. (knows scope a.place && knows scope b.place) && x) (block_known body label scope inside later)
    statement_known (for_each_of v from body) label scope inside later = ap (λ x. is_in from scope && x) (block_known body label (v ∷ scope) (v ∷ []) read_no_more)
    statement_known (labelled body) label scope inside later = block_known body true scope inside later
    statement_known s label scope inside later = grind (arith, all_known)

    arms_known : (arms : CodeArms) (label : Bool) (scope inside : List ℕ) (later : Place → Bool) → arms_scoped label scope (saved_arms types inside later arms) ≡ arms_scoped label scope arms
    arms_known no_code_arm label scope inside later = refl
    arms_known (code_arm pattern fields body rest) label scope inside later =
        λ i. block_known body label (field_sites fields ++ scope) (field_sites fields ++ inside) later i && arms_known rest label scope inside later i

  -- 4. what loops take
  module _ (taken : ℕ → Bool) where
    all_others : (inside : List ℕ) (later : Place → Bool) (before us : List PlaceUse) → others taken (all_saved types inside later before us) ≡ others taken us
    all_others inside later before [] = refl
    all_others inside later before (u ∷ us) = ap (λ b. other taken u.place && b) (all_others inside later (u ∷ before) us)

    mutual
      block_takes_same : (b : Block) (fresh inside : List ℕ) (after : Place → Bool) → block_takes taken fresh (saved types inside after b) ≡ block_takes taken fresh b
      block_takes_same no_statement fresh inside after = refl
      block_takes_same (statement s rest) fresh inside after =
          let later = behind s rest after in
          let more = saved types (movable_after inside s) after rest in
          both (statement_takes_same s fresh inside later)
          (grind (arith, common_steps, block_takes_same rest (fresh_after fresh s) (movable_after inside s) after, fresh_same))

      statement_takes_same : (s : Statement) (fresh inside : List ℕ) (later : Place → Bool) → statement_takes taken fresh (saved_at types inside later s) ≡ statement_takes taken fresh s
      statement_takes_same (match_on u arms) fresh inside later = ap (λ b. other taken u.place && b) (arms_take_same arms (unlooked inside u.place) later)
      statement_takes_same (if_equal a b body) fresh inside later = ap (λ x. (other taken a.place && other taken b.place) && x) (block_takes_same body [] inside later)
      statement_takes_same (for_each_of v from body) fresh inside later = ap (λ x. (taken from && is_in from fresh) && x) (block_takes_same body [] (v ∷ []) read_no_more)
      statement_takes_same (labelled body) fresh inside later = block_takes_same body [] inside later
      statement_takes_same s fresh inside later = grind (arith, all_others)

      arms_take_same : (arms : CodeArms) (inside : List ℕ) (later : Place → Bool) → arms_take taken (saved_arms types inside later arms) ≡ arms_take taken arms
      arms_take_same no_code_arm inside later = refl
      arms_take_same (code_arm pattern fields body rest) inside later = λ i. block_takes_same body [] (field_sites fields ++ inside) later i && arms_take_same rest inside later i

  -- 5. what is read
  module _ (q : Place) where
    all_touch_same : (inside : List ℕ) (later : Place → Bool) (before us : List PlaceUse) → any_touch q (all_saved types inside later before us) ≡ any_touch q us
    all_touch_same inside later before [] = refl
    all_touch_same inside later before (u ∷ us) = ap (λ b. touches q u.place || b) (all_touch_same inside later (u ∷ before) us)

    mutual
      block_reads_same : (b : Block) (inside : List ℕ) (after : Place → Bool) → block_reads q (saved types inside after b) ≡ block_reads q b
      block_reads_same no_statement inside after = refl
      block_reads_same (statement s rest) inside after =
          one_of (statement_reads_same s inside (behind s rest after))
          (behind_same q s inside (behind s rest after) (block_reads q (saved types (movable_after inside s) after rest)) ∙ ap (read_behind q s) (block_reads_same rest (movable_after inside s) after))

      statement_reads_same : (s : Statement) (inside : List ℕ) (later : Place → Bool) → statement_reads q (saved_at types inside later s) ≡ statement_reads q s
      statement_reads_same (bind v e) inside later = grind (arith, all_touch_same)
      statement_reads_same (match_on u arms) inside later = ap (λ b. touches q u.place || b) (arms_read_same arms (unlooked inside u.place) later)
      statement_reads_same (if_equal a b body) inside later = ap (λ x. (touches q a.place || touches q b.place) || x) (block_reads_same body inside later)
      statement_reads_same (for_each_of v from body) inside later = ap (λ x. touches q (variable from) || (not (is_of (v ∷ []) q) && x)) (block_reads_same body (v ∷ []) read_no_more)
      statement_reads_same (labelled body) inside later = block_reads_same body inside later
      statement_reads_same s inside later = refl

      arms_read_same : (arms : CodeArms) (inside : List ℕ) (later : Place → Bool) → arms_read q (saved_arms types inside later arms) ≡ arms_read q arms
      arms_read_same no_code_arm inside later = refl
      arms_read_same (code_arm pattern fields body rest) inside later = λ i. (not (is_of (field_sites fields) q) && block_reads_same body (field_sites fields ++ inside) later i) || arms_read_same rest inside later i

  -- 6. moves stand
  all_well : (inside : List ℕ) (later : Place → Bool) (before us : List PlaceUse) (made : List PlaceUse) → ((q : Place) → any_touch q made ≡ any_touch q before) → all_move_well types inside later before us ≡ true
      → all_move_well types inside later made (all_saved types inside later before us) ≡ true
  all_well inside later before [] made same h = refl
  all_well inside later before (u ∷ us) made same h =
      let hs = and_parts (moves_well types inside (beside before us later) u) (all_move_well types inside later (u ∷ before) us) h in
      and_from _ _
      (grind (arith, common_steps, all_touch_same))
      (all_well inside later (u ∷ before) us (saved_use types inside (beside before us later) u ∷ made) (λ q. ap (λ b. touches q u.place || b) (same q)) hs.1)

  module _ (multi : Bool) where
    ended_either : (s : Statement) (x y : Bool) → (x ≡ true → y ≡ true) → unless_ended s x ≡ true → unless_ended s y ≡ true
    ended_either s x y f h = grind (arith, common_steps)

    mutual
      block_well : (b : Block) (inside : List ℕ) (after : Place → Bool) → block_moves types multi inside after b ≡ true → block_moves types multi inside after (saved types inside after b) ≡ true
      block_well no_statement inside after h = refl
      block_well (statement s rest) inside after h =
          let later = behind s rest after in
          let hs = and_parts (statement_moves types multi inside later s) (unless_ended s (block_moves types multi (movable_after inside s) after rest)) h in
          let moved = saved_at types inside later s in
          let more = saved types (movable_after inside s) after rest in
          and_from (statement_moves types multi inside (behind moved more after) moved) (unless_ended moved (block_moves types multi (movable_after inside moved) after more))
          (subst (λ (l : Place → Bool). statement_moves types multi inside l moved ≡ true)
          (λ i. λ q. sym (behind_same q s inside later (block_reads q more) ∙ ap (read_behind q s) (block_reads_same q rest (movable_after inside s) after)) i || after q)
          (statement_well s inside later hs.0))
          (grind (arith, common_steps, block_well rest (movable_after inside s) after, movable_same, ended_either))

      statement_well : (s : Statement) (inside : List ℕ) (later : Place → Bool) → statement_moves types multi inside later s ≡ true → statement_moves types multi inside later (saved_at types inside later s) ≡ true
      statement_well (bind v e) inside later h = grind (arith, all_well)
      statement_well (match_on u arms) inside later h = grind (arith, common_steps, arms_well arms, arms_read_same)
      statement_well (if_equal a b body) inside later h = block_well body inside later h
      statement_well (for_each_of v from body) inside later h =
          let hs = and_parts (may_move inside (around_loop v body later) (variable from)) (block_moves types multi (v ∷ []) read_no_more body) h in
          and_from _ _
          (subst (λ (l : Place → Bool). may_move inside l (variable from) ≡ true) (λ i. λ q. (not (is_of (v ∷ []) q) && sym (block_reads_same q body (v ∷ []) read_no_more) i) || later q) hs.0)
          (block_well body (v ∷ []) read_no_more hs.1)
      statement_well (give at u) inside later h = grind arith
      statement_well (labelled body) inside later h = block_well body inside later h
      statement_well (bind_some v u) inside later h = h
      statement_well (unless_let u pattern fields) inside later h = h
      statement_well s inside later h = refl

      arms_well : (arms : CodeArms) (inside : List ℕ) (later : Place → Bool) (well : Bool) → arms_move types multi inside later well arms ≡ true → arms_move types multi inside later well (saved_arms types inside later arms) ≡ true
      arms_well no_code_arm inside later well h = refl
      arms_well (code_arm pattern fields body rest) inside later well h =
          let hs = and_parts (well && block_moves types multi (field_sites fields ++ inside) later body) (arms_move types multi inside later well rest) h in
          let ks = and_parts well (block_moves types multi (field_sites fields ++ inside) later body) hs.0 in
          and_from _ _ (and_from _ _ ks.0 (block_well body (field_sites fields ++ inside) later ks.1)) (arms_well rest inside later well hs.1)

  -- 7. uses fit
  -- what may be saved gives a value, or is given away
  kept_saved : (inside : List ℕ) (later : Place → Bool) (u : PlaceUse) → fits_value false (given types u) ≡ true → fits_value true (given types (saved_use types inside later u)) ≡ true
  kept_saved = grind arith

  all_kept : (inside : List ℕ) (later : Place → Bool) (before us : List PlaceUse) → fit_values types false us ≡ true → fit_values types true (all_saved types inside later before us) ≡ true
  all_kept inside later before [] h = refl
  all_kept inside later before (u ∷ us) h = grind (arith, common_steps, all_kept inside later (u ∷ before) us, and_parts, and_from, kept_saved)

  module _ (multi : Bool) where
    mutual
      block_kept : (b : Block) (inside : List ℕ) (after : Place → Bool) → block_fits types multi false b ≡ true → block_fits types multi true (saved types inside after b) ≡ true
      block_kept no_statement inside after h = refl
      block_kept (statement s rest) inside after h =
          let hs = and_parts (statement_fits types multi false s) (block_fits types multi false rest) h in
          and_from _ _ (statement_kept s inside (behind s rest after) hs.0) (block_kept rest (movable_after inside s) after hs.1)

      statement_kept : (s : Statement) (inside : List ℕ) (later : Place → Bool) → statement_fits types multi false s ≡ true → statement_fits types multi true (saved_at types inside later s) ≡ true
      statement_kept (match_on u arms) inside later h = arms_kept arms (unlooked inside u.place) later (given types u) h
      statement_kept (if_equal a b body) inside later h =
          let hs = and_parts (fits_equal (given types a) (given types b)) (block_fits types multi false body) h in and_from _ _ hs.0 (block_kept body inside later hs.1)
      statement_kept (for_each_of v from body) inside later h =
          let hs = and_parts (is_value (types.variables v) && is_value (types.variables from)) (block_fits types multi false body) h in
          and_from _ _ hs.0 (block_kept body (v ∷ []) read_no_more hs.1)
      statement_kept (labelled body) inside later h = block_kept body inside later h
      statement_kept s inside later h = grind (arith, common_steps, and_parts, and_from, all_kept, kept_saved)

      arms_kept : (arms : CodeArms) (inside : List ℕ) (later : Place → Bool) (g : Given) → arms_fit types multi false g arms ≡ true → arms_fit types multi true g (saved_arms types inside later arms) ≡ true
      arms_kept no_code_arm inside later g h = refl
      arms_kept (code_arm pattern fields body rest) inside later g h =
          let hs = and_parts (fits_pattern pattern g && fits_fields types pattern g fields) (block_fits types multi false body && arms_fit types multi false g rest) h in
          let ks = and_parts (block_fits types multi false body) (arms_fit types multi false g rest) hs.1 in
          and_from _ _ hs.0 (and_from _ _ (block_kept body (field_sites fields ++ inside) later ks.0) (arms_kept rest inside later g ks.1))

pub with_moves_says_same_lem : WithMovesSaysSame
with_moves_says_same_lem types code = record {
  runs = λ w most env t. block_runs types w most code [] read_no_more env t;
  scoped = λ label scope. block_known types code label scope [] read_no_more;
  takes = λ taken fresh. block_takes_same types taken code fresh [] read_no_more;
}

pub with_moves_is_made_well_lem : WithMovesIsMadeWell
with_moves_is_made_well_lem types multi code = grind (arith, common_steps, block_well types multi code [] read_no_more, block_kept types multi code [] read_no_more)
