-- Code whose uses fit and whose loops take what was bound right before moves once.
use Rattle.std.proofs.Common.{◌≡◌, ◌&&◌, ◌||◌, ◌++◌, ◌∷◌, ◌==◌, [], ℕ, suc, Bool, true, false, not, List, refl, ap, arith}
use Rattle.std.proofs.lemmas.Grind.{common_steps}
use Rattle.std.proofs.lemmas.Bool.{and_parts, and_from, false≢true, not-true}
use Rattle.model.specs.trees.Places.{is_in, field_sites}
use Rattle.model_code.specs.Code.{Place, variable, PlaceUse, Block, no_statement, statement, Statement, bind, bind_some, no_way, match_on, if_equal, for_each_of, give, labelled, unless_let, unless_equal, CodeArms, no_code_arm, code_arm}
use Rattle.model_code.specs.Scopes.{unless_ended}
use Rattle.model_code.specs.Modes.{Types, Given, given, is_value, fits_parameter, fits_equal, fits_pattern, fits_fields, fits_parameters, fit_values, block_fits, statement_fits, arms_fit}
use Rattle.model_code.specs.Moves.{other, others, fresh_after, block_takes, statement_takes, arms_take}
use Rattle.model_code.specs.MovedOnce.{touches, any_touch, is_of, block_reads, statement_reads, arms_read, is_away, may_move, moves_well, beside, all_move_well, without, unlooked, movable_after, behind, around_arms, read_no_more, block_moves, statement_moves, arms_move, FittingCodeMovesOnce}

pub or_false : (a b : Bool) → a ≡ false → b ≡ false → (a || b) ≡ false
or_false a b h k = grind (arith, common_steps)

pub and_false : (a b : Bool) → b ≡ false → (a && b) ≡ false
and_false a b h = grind (arith, common_steps)

-- 1. what fits isn't given away
module _ (types : Types) where
  stays_well : (inside : List ℕ) (later : Place → Bool) (u : PlaceUse) → is_away (given types u) ≡ false → moves_well types inside later u ≡ true
  stays_well inside later u h = ap (λ b. not b || may_move inside later u.place) h

  parameters_well : (inside : List ℕ) (later : Place → Bool) (term i : ℕ) (before us : List PlaceUse) → fits_parameters types term i us ≡ true → all_move_well types inside later before us ≡ true
  parameters_well inside later term i before [] h = refl
  parameters_well inside later term i before (u ∷ us) h =
      let hs = and_parts (fits_parameter (types.takes_reference term i) (given types u)) (fits_parameters types term (suc i) us) h in
      and_from _ _ (stays_well inside (beside before us later) u (grind (arith, common_steps))) (parameters_well inside later term (suc i) (u ∷ before) us hs.1)

  values_well : (inside : List ℕ) (later : Place → Bool) (before us : List PlaceUse) → fit_values types false us ≡ true → all_move_well types inside later before us ≡ true
  values_well inside later before [] h = refl
  values_well inside later before (u ∷ us) h = grind (arith, common_steps, values_well inside later (u ∷ before) us, and_parts, and_from, stays_well)

-- 2. what loops take is read by nothing else
module _ (taken : ℕ → Bool) (c : ℕ) (takes : taken c ≡ true) where
  untouched : (place : Place) → other taken place ≡ true → touches (variable c) place ≡ false
  untouched place h = grind (arith, common_steps, not-true)

  all_untouched : (us : List PlaceUse) → others taken us ≡ true → any_touch (variable c) us ≡ false
  all_untouched [] h = refl
  all_untouched (u ∷ us) h = let hs = and_parts (other taken u.place) (others taken us) h in or_false _ _ (untouched u.place hs.0) (all_untouched us hs.1)

  mutual
    quiet : (b : Block) (fresh : List ℕ) → is_in c fresh ≡ false → block_takes taken fresh b ≡ true → block_reads (variable c) b ≡ false
    quiet no_statement fresh f h = refl
    quiet (statement s rest) fresh f h = grind (arith, common_steps, quiet_at s fresh f, quiet rest, and_parts, or_false)

    quiet_at : (s : Statement) (fresh : List ℕ) → is_in c fresh ≡ false → statement_takes taken fresh s ≡ true → statement_reads (variable c) s ≡ false
    quiet_at (bind v e) fresh f h = grind (arith, untouched, all_untouched)
    quiet_at (bind_some v u) fresh f h = untouched u.place h
    quiet_at no_way fresh f h = refl
    quiet_at (match_on u arms) fresh f h = let hs = and_parts (other taken u.place) (arms_take taken arms) h in or_false _ _ (untouched u.place hs.0) (quiet_arms arms hs.1)
    quiet_at (if_equal a b body) fresh f h = grind (arith, common_steps, quiet body [] refl, and_parts, or_false, untouched)
    quiet_at (for_each_of v from body) fresh f h = grind (arith, common_steps, quiet body [] refl, and_parts, or_false, and_false)
    quiet_at (give at u) fresh f h = untouched u.place h
    quiet_at (labelled body) fresh f h = quiet body [] refl h
    quiet_at (unless_let u pattern fields) fresh f h = untouched u.place h
    quiet_at (unless_equal a b) fresh f h = let os = and_parts (other taken a.place) (other taken b.place) h in or_false _ _ (untouched a.place os.0) (untouched b.place os.1)

    quiet_arms : (arms : CodeArms) → arms_take taken arms ≡ true → arms_read (variable c) arms ≡ false
    quiet_arms no_code_arm h = refl
    quiet_arms (code_arm pattern fields body rest) h = grind (arith, common_steps, quiet body [] refl, quiet_arms rest, and_parts, or_false, and_false)

-- another variable than the one that is looked into can still be moved
kept_without : (v x : ℕ) → (v == x) ≡ false → (xs : List ℕ) → is_in x xs ≡ true → is_in x (without v xs) ≡ true
kept_without v x n [] h = absurd (false≢true h)
kept_without v x n (y ∷ xs) h = grind (arith, common_steps, kept_without v x n xs)

-- 3. by induction on the code
module _ (types : Types) (multi : Bool) (taken : ℕ → Bool) where
  -- what loops take isn't read behind
  abbrev Unread : (Place → Bool) → Type 0
  Unread after = (c : ℕ) → taken c ≡ true → after (variable c) ≡ false

  abbrev Within : List ℕ → List ℕ → Type 0
  Within fresh inside = (x : ℕ) → taken x ≡ true → is_in x fresh ≡ true → is_in x inside ≡ true

  -- behind a statement, where the rest moves well
  rest_well : (s : Statement) (rest : Block) (fresh inside : List ℕ) (after : Place → Bool) → ((next movable : List ℕ) → Within next movable → block_takes taken next rest ≡ true → block_moves types multi movable after rest ≡ true)
      → Within fresh inside → statement_takes taken fresh s ≡ true → unless_ended s (block_takes taken (fresh_after fresh s) rest) ≡ true → unless_ended s (block_moves types multi (movable_after inside s) after rest) ≡ true
  rest_well s rest fresh inside after later w k h = grind (arith, common_steps, kept_without)

  mutual
    block_well : (b : Block) (fresh inside : List ℕ) (after : Place → Bool) → Within fresh inside → Unread after → block_fits types multi false b ≡ true → block_takes taken fresh b ≡ true → block_moves types multi inside after b ≡ true
    block_well no_statement fresh inside after w n f h = refl
    block_well (statement s rest) fresh inside after w n f h =
        let fs = and_parts (statement_fits types multi false s) (block_fits types multi false rest) f in
        let hs = and_parts (statement_takes taken fresh s) (unless_ended s (block_takes taken (fresh_after fresh s) rest)) h in
        and_from (statement_moves types multi inside (behind s rest after) s) (unless_ended s (block_moves types multi (movable_after inside s) after rest))
        (statement_well s rest fresh inside after w n fs.0 hs.0 hs.1)
        (rest_well s rest fresh inside after (λ next movable v k. block_well rest next movable after v n fs.1 k) w hs.0 hs.1)

    statement_well : (s : Statement) (rest : Block) (fresh inside : List ℕ) (after : Place → Bool) → Within fresh inside → Unread after → statement_fits types multi false s ≡ true → statement_takes taken fresh s ≡ true
        → unless_ended s (block_takes taken (fresh_after fresh s) rest) ≡ true → statement_moves types multi inside (behind s rest after) s ≡ true
    statement_well (bind v e) rest fresh inside after w n f h k = grind (arith, stays_well, and_parts, parameters_well, values_well)
    statement_well (bind_some v u) rest fresh inside after w n f h k = grind (arith, stays_well)
    statement_well (match_on u arms) rest fresh inside after w n f h k =
        arms_well arms (unlooked inside u.place) (behind (match_on u arms) rest after) (given types u) (moves_well types inside (around_arms arms (behind (match_on u arms) rest after)) u)
        (λ c t. or_false _ _ (quiet taken c t rest [] refl k) (n c t)) (stays_well types inside (around_arms arms (behind (match_on u arms) rest after)) u) f
        (and_parts (other taken u.place) (arms_take taken arms) h).1
    statement_well (if_equal a b body) rest fresh inside after w n f h k =
        block_well body [] inside (behind (if_equal a b body) rest after) (grind arith) (λ c t. or_false _ _ (quiet taken c t rest [] refl k) (n c t))
        (and_parts (fits_equal (given types a) (given types b)) (block_fits types multi false body) f).1
        (and_parts (other taken a.place && other taken b.place) (block_takes taken [] body) h).1
    statement_well (for_each_of v from body) rest fresh inside after w n f h k =
        let hs = and_parts (taken from && is_in from fresh) (block_takes taken [] body) h in
        let os = and_parts (taken from) (is_in from fresh) hs.0 in
        let unread_behind = or_false _ _ (and_false (not (is_of (v ∷ []) (variable from))) _ (quiet taken from os.0 body [] refl hs.1)) (or_false _ _ (quiet taken from os.0 rest [] refl k) (n from os.0)) in
        and_from _ _
        (and_from _ _ (w from os.0 os.1) (ap not unread_behind))
        (block_well body [] (v ∷ []) read_no_more (grind arith) (λ c t. refl) (and_parts (is_value (types.variables v) && is_value (types.variables from)) (block_fits types multi false body) f).1 hs.1)
    statement_well (give at u) rest fresh inside after w n f h k = grind (arith, common_steps, stays_well)
    statement_well (labelled body) rest fresh inside after w n f h k =
        block_well body [] inside (behind (labelled body) rest after) (grind arith) (λ c t. or_false _ _ (quiet taken c t rest [] refl k) (n c t)) f h
    statement_well (unless_let u pattern fields) rest fresh inside after w n f h k = grind (arith, common_steps, stays_well, and_parts)
    statement_well s rest fresh inside after w n f h k = refl

    arms_well : (arms : CodeArms) (inside : List ℕ) (later : Place → Bool) (g : Given) (well : Bool) → Unread later → (is_away g ≡ false → well ≡ true) → arms_fit types multi false g arms ≡ true → arms_take taken arms ≡ true
        → arms_move types multi inside later well arms ≡ true
    arms_well no_code_arm inside later g well n s f h = refl
    arms_well (code_arm pattern fields body rest) inside later g well n s f h =
        let fs = and_parts (fits_pattern pattern g && fits_fields types pattern g fields) (block_fits types multi false body && arms_fit types multi false g rest) f in
        let ks = and_parts (block_fits types multi false body) (arms_fit types multi false g rest) fs.1 in
        let hs = and_parts (block_takes taken [] body) (arms_take taken rest) h in
        and_from _ _
        (and_from _ _ (s (grind (arith, common_steps)))
        (block_well body [] (field_sites fields ++ inside) later (grind arith) n ks.0 hs.0))
        (arms_well rest inside later g well n s ks.1 hs.1)

pub fitting_code_moves_once_lem : FittingCodeMovesOnce
fitting_code_moves_once_lem types multi taken code f h = block_well types multi taken code [] [] read_no_more (grind arith) (λ c t. refl) f h
