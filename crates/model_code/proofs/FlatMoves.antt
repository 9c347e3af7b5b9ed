-- Labels, put at whatever depths, keep what loops take.
use Rattle.std.proofs.Common.{◌≡◌, ◌&&◌, [], ℕ, suc, Bool, true, List, refl, arith}
use Rattle.std.proofs.lemmas.Bool.{and_parts, and_from, false≢true}
use Rattle.std.proofs.lemmas.Grind.{common_steps}
use Rattle.model.specs.trees.Places.{is_in}
use Rattle.model_code.specs.Code.{PlaceUse, Block, no_statement, statement, Statement, bind, bind_some, no_way, match_on, if_equal, for_each_of, give, CodeArms, no_code_arm, code_arm}
use Rattle.model_code.specs.Flat.{unlabelled, unlabelled_at, unlabelled_arms, within, flat, flat_at, flat_arms, leaving, leaving_last, leaving_match}
use Rattle.model_code.specs.Scopes.{unless_ended}
use Rattle.model_code.specs.Moves.{other, fresh_after, block_takes, statement_takes, arms_take, FlatKeepsMoves}
use Rattle.model_code.proofs.FlatScopes.{later_flat}

fresh_flat : (s : Statement) (deep : ℕ → Bool) (n : ℕ) (fresh : List ℕ) → fresh_after fresh s ≡ fresh_after fresh (flat_at s deep n)
fresh_flat s deep n fresh = grind (arith, common_steps)

module _ (taken : ℕ → Bool) where
  within_takes : (deep : Bool) (inner plain : Block) → block_takes taken [] inner ≡ true → block_takes taken [] plain ≡ true → block_takes taken [] (within deep inner plain) ≡ true
  within_takes deep inner plain h k = grind (arith, common_steps, and_from)

  module _ (deep : ℕ → Bool) where
    mutual
      flat_takes : (b : Block) (n : ℕ) (fresh : List ℕ) → unlabelled b ≡ true → block_takes taken fresh b ≡ true → block_takes taken fresh (flat b deep n) ≡ true
      flat_takes no_statement n fresh u h = refl
      flat_takes (statement s rest) n fresh u h =
          let us = and_parts (unlabelled_at s) (unlabelled rest) u in
          let hs = and_parts (statement_takes taken fresh s) (unless_ended s (block_takes taken (fresh_after fresh s) rest)) h in
          and_from (statement_takes taken fresh (flat_at s deep n)) _ (flat_takes_at s n fresh us.0 hs.0)
          (grind (arith, common_steps, flat_takes rest n (fresh_after fresh s) us.1, later_flat, fresh_flat))

      flat_takes_at : (s : Statement) (n : ℕ) (fresh : List ℕ) → unlabelled_at s ≡ true → statement_takes taken fresh s ≡ true → statement_takes taken fresh (flat_at s deep n) ≡ true
      flat_takes_at (bind v e) n fresh u h = h
      flat_takes_at (bind_some v x) n fresh u h = h
      flat_takes_at no_way n fresh u h = refl
      flat_takes_at (match_on x arms) n fresh u h = let hs = and_parts (other taken x.place) (arms_take taken arms) h in and_from _ _ hs.0 (flat_takes_arms arms n u hs.1)
      flat_takes_at (if_equal a b body) n fresh u h =
          let hs = and_parts (other taken a.place && other taken b.place) (block_takes taken [] body) h in
          and_from _ _ hs.0 (within_takes (deep n) (leaving body deep (suc n)) (flat body deep (suc n)) (leaving_takes body (suc n) [] u hs.1) (flat_takes body (suc n) [] u hs.1))
      flat_takes_at (for_each_of v from body) n fresh u h =
          let hs = and_parts (taken from && is_in from fresh) (block_takes taken [] body) h in
          and_from _ _ hs.0 (within_takes (deep n) (leaving body deep (suc n)) (flat body deep (suc n)) (leaving_takes body (suc n) [] u hs.1) (flat_takes body (suc n) [] u hs.1))
      flat_takes_at (give at x) n fresh u h = h
      flat_takes_at _ n fresh u h = absurd (false≢true u)

      flat_takes_arms : (arms : CodeArms) (n : ℕ) → unlabelled_arms arms ≡ true → arms_take taken arms ≡ true → arms_take taken (flat_arms arms deep n) ≡ true
      flat_takes_arms no_code_arm n u h = refl
      flat_takes_arms (code_arm pattern fields body rest) n u h =
          let us = and_parts (unlabelled body) (unlabelled_arms rest) u in
          let hs = and_parts (block_takes taken [] body) (arms_take taken rest) h in
          and_from _ _ (within_takes (deep n) (leaving body deep (suc n)) (flat body deep (suc n)) (leaving_takes body (suc n) [] us.0 hs.0) (flat_takes body (suc n) [] us.0 hs.0)) (flat_takes_arms rest n us.1 hs.1)

      leaving_takes : (b : Block) (n : ℕ) (fresh : List ℕ) → unlabelled b ≡ true → block_takes taken fresh b ≡ true → block_takes taken fresh (leaving b deep n) ≡ true
      leaving_takes no_statement n fresh u h = refl
      leaving_takes (statement s no_statement) n fresh u h =
          leaving_takes_last s n fresh (and_parts (unlabelled_at s) true u).0 (and_parts (statement_takes taken fresh s) (unless_ended s true) h).0
      leaving_takes (statement s (statement next rest)) n fresh u h =
          let us = and_parts (unlabelled_at s) (unlabelled (statement next rest)) u in
          let hs = and_parts (statement_takes taken fresh s) (unless_ended s (block_takes taken (fresh_after fresh s) (statement next rest))) h in
          and_from (statement_takes taken fresh (flat_at s deep n)) _ (flat_takes_at s n fresh us.0 hs.0)
          (grind (arith, common_steps, leaving_takes (statement next rest) n (fresh_after fresh s) us.1, later_flat, fresh_flat))

      leaving_takes_last : (s : Statement) (n : ℕ) (fresh : List ℕ) → unlabelled_at s ≡ true → statement_takes taken fresh s ≡ true → block_takes taken fresh (leaving_last s deep n) ≡ true
      leaving_takes_last (bind v e) n fresh u h = and_from _ _ h refl
      leaving_takes_last (bind_some v x) n fresh u h = and_from _ _ h refl
      leaving_takes_last no_way n fresh u h = refl
      leaving_takes_last (match_on x arms) n fresh u h = leaving_takes_match x arms n fresh u h
      leaving_takes_last (if_equal a b body) n fresh u h =
          let hs = and_parts (other taken a.place && other taken b.place) (block_takes taken [] body) h in and_from _ _ hs.0 (leaving_takes body n [] u hs.1)
      leaving_takes_last (for_each_of v from body) n fresh u h =
          let hs = and_parts (taken from && is_in from fresh) (block_takes taken [] body) h in
          and_from _ _ (and_from _ _ hs.0 (within_takes (deep n) (leaving body deep (suc n)) (flat body deep (suc n)) (leaving_takes body (suc n) [] u hs.1) (flat_takes body (suc n) [] u hs.1))) refl
      leaving_takes_last (give at x) n fresh u h = and_from _ _ h refl
      leaving_takes_last _ n fresh u h = absurd (false≢true u)

      leaving_takes_match : (x : PlaceUse) (arms : CodeArms) (n : ℕ) (fresh : List ℕ) → unlabelled_arms arms ≡ true → (other taken x.place && arms_take taken arms) ≡ true → block_takes taken fresh (leaving_match x arms deep n) ≡ true
      leaving_takes_match x no_code_arm n fresh u h = and_from _ _ h refl
      leaving_takes_match x (code_arm pattern fields body no_code_arm) n fresh u h =
          let hs = and_parts (other taken x.place) (block_takes taken [] body && true) h in
          and_from _ _ hs.0 (leaving_takes body n [] (and_parts (unlabelled body) true u).0 (and_parts (block_takes taken [] body) true hs.1).0)
      leaving_takes_match x (code_arm pattern fields body (code_arm p2 f2 b2 rest)) n fresh u h =
          let us = and_parts (unlabelled body) (unlabelled b2 && unlabelled_arms rest) u in
          let vs = and_parts (unlabelled b2) (unlabelled_arms rest) us.1 in
          let hs = and_parts (other taken x.place) (block_takes taken [] body && (block_takes taken [] b2 && arms_take taken rest)) h in
          let is = and_parts (block_takes taken [] body) (block_takes taken [] b2 && arms_take taken rest) hs.1 in
          let js = and_parts (block_takes taken [] b2) (arms_take taken rest) is.1 in
          and_from _ _ (and_from _ _ hs.0 (and_from _ _
          (within_takes (deep n) (leaving body deep (suc n)) (flat body deep (suc n)) (leaving_takes body (suc n) [] us.0 is.0) (flat_takes body (suc n) [] us.0 is.0))
          (and_from _ _
          (within_takes (deep n) (leaving b2 deep (suc n)) (flat b2 deep (suc n)) (leaving_takes b2 (suc n) [] vs.0 js.0) (flat_takes b2 (suc n) [] vs.0 js.0))
          (flat_takes_arms rest n vs.1 js.1)))) refl

pub flat_keeps_moves_lem : FlatKeepsMoves
flat_keeps_moves_lem taken b deep n u h = flat_takes taken deep b n [] u h
