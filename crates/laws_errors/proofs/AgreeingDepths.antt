-- Each way of going on keeps a step and the function of typing agreed at all depths: the calculus that a reading is proved by.
use Rattle.std.proofs.Common.{◌≡◌, ◌⊎◌, inl, inr, ℕ, zero, suc, ◌+◌, ◌≤◌, Bool, true, false, cond, eqb, List, [], ◌∷◌, ◌++◌, Option, Some, None, refl, ap, arith}
use Rattle.std.proofs.lemmas.Grind.{common_steps}
use Rattle.std.proofs.lemmas.Bool.Decides.{Decides-eqb}
use Rattle.std.proofs.lemmas.Option.{same_Some}
use Rattle.model.specs.lists.Syntax.{Position}
use Rattle.model.specs.lists.Setting.{Scope}
use Rattle.model.specs.lists.Typings.{Typing, plain, made_into, scoped, followed, counted}
use Rattle.model.specs.lists.Elaborated.{most_expansions}
use Rattle.model.specs.claims.Refusals.{of_nesting, of_expansions}
use Rattle.laws_errors.specs.Steps.{Why, Mistake, Step, went_on, stopped, unless, here, noting, made_step, counted_step, joined_step, then_step, after_made, last_made, then_made}
use Rattle.laws_errors.specs.StepLaws.{TakesTooMany, Agrees, is_read, is_wrong, is_stopped, is_stopped_later, FitsBehind, IsOnlyTyping, AgreesAtDepths, only_read, never_read, too_deep, too_long, never_read_later}

pub eqb-ne : (a b : ℕ) → eqb a b ≡ false → a ≡ b → ⊥
eqb-ne a b h k = absurd (let j = (Decides-eqb a b).1 k in cc)

-- there is none either way
pub neither : {X : Type 0} (b : Bool) (o : Option X) → o ≡ None → cond b o None ≡ None
neither b o h = grind (arith, common_steps)

-- the same at each depth is the same typing
only_same : {X : Type 0} (d : ℕ) (o u : ℕ → Option (Typing X)) (a : Typing X) → ((c : ℕ) → o c ≡ u c) → IsOnlyTyping o d a → IsOnlyTyping u d a
only_same d o u a same only = grind (arith, common_steps)

pub same_at_depths : {X : Type 0} (n d : ℕ) (o u : ℕ → Option (Typing X)) (t : Step X) → ((c : ℕ) → o c ≡ u c) → AgreesAtDepths n d o t → AgreesAtDepths n d u t
same_at_depths n d o u t same h = grind (arith, only_same)

-- something is made without an expansion, at each depth
pub at_once : {X : Type 0} (n d : ℕ) (x : X) (s : Scope) → AgreesAtDepths n d (λ c. Some (plain x s)) (here x s)
at_once n d x s = only_read x s 0 (inl refl) (record { here = refl; elsewhere = λ c. inr refl })

-- what is wrong before a step, where no depth makes anything
pub noted : {X : Type 0} (n d : ℕ) (w : Mistake) (ws : List Mistake) (t : Step X) (o : ℕ → Option (Typing X)) → ((c : ℕ) → o c ≡ None) → AgreesAtDepths n d o (noting (w ∷ ws) t)
noted n d w ws (went_on m s k es) o none = never_read m s k w (ws ++ es) none
noted n d w ws (stopped l s es) o none = never_read_later l s w (ws ++ es) none

-- nothing is
pub none_noted : {X : Type 0} (n d : ℕ) (t : Step X) (o : ℕ → Option (Typing X)) → AgreesAtDepths n d o t → AgreesAtDepths n d o (noting [] t)
none_noted n d t o h = grind (arith, common_steps)

-- a test, and what comes where it holds
pub checked : {X : Type 0} (n d : ℕ) (b : Bool) (why : Why) (at : Position) (t : Step X) (o : ℕ → Option (Typing X))
    → (b ≡ true → AgreesAtDepths n d o t) → AgreesAtDepths n d (λ c. cond b (o c) None) (noting (unless b why at) t)
checked n d true why at t o h = none_noted n d t o (h refl)
checked n d false why at t o h = noted n d _ [] t (λ c. None) (λ c. refl)

-- the same of each typing
pub only_through : {X Y : Type 0} (g : Option (Typing X) → Option (Typing Y)) (d : ℕ) (o : ℕ → Option (Typing X)) (a : Typing X) (b : Typing Y)
    → g None ≡ None → g (Some a) ≡ Some b → IsOnlyTyping o d a → IsOnlyTyping (λ c. g (o c)) d b
only_through g d o a b none some only = grind (arith, common_steps)

past_made : {X Y : Type 0} (n : ℕ) (f : X → Y) (o : Option (Typing X)) → TakesTooMany n o → TakesTooMany n (made_into f o)
past_made n f o past = grind (arith, common_steps, same_Some)

pub made : {X Y : Type 0} (n d : ℕ) (f : X → Y) (t : Step X) (o : ℕ → Option (Typing X)) → AgreesAtDepths n d o t → AgreesAtDepths n d (λ c. made_into f (o c)) (made_step f t)
made n d f _ o (only_read x s k fits only) = only_read (f x) s k fits (only_through (made_into f) d o _ _ refl refl only)
made n d f _ o (never_read m s k w ws none) = never_read _ s k w ws (λ c. ap (made_into f) (none c))
made n d f _ o (too_deep s none) = too_deep s (ap (made_into f) none)
made n d f _ o (too_long s past) = too_long s (λ c. past_made n f (o c) (past c))
made n d f _ o (never_read_later l s w ws none) = never_read_later l s w ws (λ c. ap (made_into f) (none c))

-- what an expansion makes at each depth: nothing where none may nest, else what is made where one fewer may, and one more is counted
abbrev pub one_deeper : {X : Type 0} → (ℕ → Option (Typing X)) → ℕ → Option (Typing X)
one_deeper o zero = None
one_deeper o (suc c) = counted (o c)

none_deeper : {X : Type 0} (o : ℕ → Option (Typing X)) → ((c : ℕ) → o c ≡ None) → (c : ℕ) → one_deeper o c ≡ None
none_deeper o none c = grind (arith, common_steps)

past_deeper : {X : Type 0} (n : ℕ) (o : ℕ → Option (Typing X)) → ((c : ℕ) → TakesTooMany (suc n) (o c)) → (c : ℕ) → TakesTooMany n (one_deeper o c)
past_deeper n o past c = grind (arith, common_steps)

only_deeper : {X : Type 0} (d : ℕ) (o : ℕ → Option (Typing X)) (x : X) (s : Scope) (k : ℕ)
    → IsOnlyTyping o d (record { made = x; scope = s; expansions = k }) → IsOnlyTyping (one_deeper o) (suc d) (record { made = x; scope = s; expansions = suc k })
only_deeper d o x s k only = grind (arith, common_steps, made)

fits_deeper : (n k : ℕ) → suc n ≤ most_expansions → FitsBehind (suc n) k → FitsBehind n (suc k)
fits_deeper n k few i = grind (arith, common_steps)

-- one expansion more, where one may be made
pub one_more : {X : Type 0} (n d : ℕ) (t : Step X) (o : ℕ → Option (Typing X)) → suc n ≤ most_expansions → AgreesAtDepths (suc n) d o t → AgreesAtDepths n (suc d) (one_deeper o) (counted_step t)
one_more n d _ o few (only_read x s k fits only) = only_read x s (suc k) (fits_deeper n k few fits) (only_deeper d o x s k only)
one_more n d _ o few (never_read m s k w ws none) = never_read m s (suc k) w ws (none_deeper o none)
one_more n d _ o few (too_deep s none) = too_deep s (ap counted none)
one_more n d _ o few (too_long s past) = too_long s (past_deeper n o past)
one_more n d _ o few (never_read_later l s w ws none) = never_read_later l s w ws (none_deeper o none)

most_deeper : {X : Type 0} (n : ℕ) (o : ℕ → Option (Typing X)) → most_expansions ≤ n → (c : ℕ) → TakesTooMany n (one_deeper o c)
most_deeper n o most c = grind (arith, common_steps)

-- as many were made as may be, before one more
pub too_many : {X : Type 0} (n d : ℕ) (z : Scope) (o : ℕ → Option (Typing X)) → most_expansions ≤ n → AgreesAtDepths n d (one_deeper o) (stopped of_expansions z [])
too_many n d z o most = too_long z (most_deeper n o most)

fits_both : (n k j : ℕ) → FitsBehind n k → FitsBehind (n + k) j → FitsBehind n (k + j)
fits_both n k j m e = grind arith

module _ {X Y Z : Type 0} (n d : ℕ) (f : X → Y → Z) (g : Option X → Y → Z) (same : (x : X) (y : Y) → g (Some x) y ≡ f x y) where
  -- what takes too many takes too many with what comes behind it
  past_followed : (v : Option (Typing X)) (rest : Typing X → Option (Typing Y)) → TakesTooMany n v → TakesTooMany n (followed f v rest)
  past_followed v rest past = grind (arith, common_steps, same_Some)

  module _ (x : X) (s : Scope) (k : ℕ) (v : Option (Typing X)) (own : (v ≡ None) ⊎ (v ≡ Some (record { made = x; scope = s; expansions = k }))) (rest : Typing X → Option (Typing Y)) where
    none_joined : rest (record { made = x; scope = s; expansions = k }) ≡ None → followed f v rest ≡ None
    none_joined h = grind (arith, common_steps, own)

    past_joined : TakesTooMany (n + k) (rest (record { made = x; scope = s; expansions = k })) → TakesTooMany n (followed f v rest)
    past_joined past = grind (arith, common_steps, own, same_Some)

  module _ (x : X) (s : Scope) (k : ℕ) (o : ℕ → Option (Typing X)) (own : IsOnlyTyping o d (record { made = x; scope = s; expansions = k })) (rest : ℕ → Typing X → Option (Typing Y)) where
    abbrev first : Typing X
    first = record { made = x; scope = s; expansions = k }

    only_joined : (y : Y) (u : Scope) (j : ℕ) → IsOnlyTyping (λ c. rest c first) d (record { made = y; scope = u; expansions = j })
        → IsOnlyTyping (λ c. followed f (o c) (rest c)) d (record { made = f x y; scope = u; expansions = k + j })
    only_joined y u j only = grind (arith, common_steps, made)

    -- what comes behind what was made
    joined : (t : Step Y) → FitsBehind n k → AgreesAtDepths (n + k) d (λ c. rest c first) t → AgreesAtDepths n d (λ c. followed f (o c) (rest c)) (noting [] (joined_step g (Some x) k t))
    joined _ fits (only_read y u j fits' only) = rw (same x y) (only_read (f x y) u (k + j) (fits_both n k j fits fits') (only_joined y u j only))
    joined _ fits (never_read None u j w ws none) = never_read None u (k + j) w ws (λ c. none_joined x s k (o c) (own.elsewhere c) (rest c) (none c))
    joined _ fits (never_read (Some y) u j w ws none) = never_read (Some (g (Some x) y)) u (k + j) w ws (λ c. none_joined x s k (o c) (own.elsewhere c) (rest c) (none c))
    joined _ fits (too_deep z none) = too_deep z (none_joined x s k (o d) (own.elsewhere d) (rest d) none)
    joined _ fits (too_long z past) = too_long z (λ c. past_joined x s k (o c) (own.elsewhere c) (rest c) (past c))
    joined _ fits (never_read_later l z w ws none) = never_read_later l z w ws (λ c. none_joined x s k (o c) (own.elsewhere c) (rest c) (none c))

  -- one step, then the next
  pub in_order : (t : Step X) (o : ℕ → Option (Typing X)) (next : Option X → Scope → ℕ → Step Y) (rest : ℕ → Typing X → Option (Typing Y)) → AgreesAtDepths n d o t
      → ((a : Typing X) → o d ≡ Some a → AgreesAtDepths (n + a.expansions) d (λ c. rest c a) (next (Some a.made) a.scope a.expansions))
      → AgreesAtDepths n d (λ c. followed f (o c) (rest c)) (then_step g t next)
  in_order _ o next rest (only_read x s k fits only) r = joined x s k o only rest _ fits (r (record { made = x; scope = s; expansions = k }) only.here)
  in_order _ o next rest (never_read m s k w ws none) r = noted n d w ws _ _ (λ c. ap (λ v. followed f v (rest c)) (none c))
  in_order _ o next rest (too_deep z none) r = too_deep z (ap (λ v. followed f v (rest d)) none)
  in_order _ o next rest (too_long z past) r = too_long z (λ c. past_followed (o c) (rest c) (past c))
  in_order _ o next rest (never_read_later l z w ws none) r = never_read_later l z w ws (λ c. ap (λ v. followed f v (rest c)) (none c))

-- what nothing can follow
pub followed_none : {X Y Z : Type 0} (f : X → Y → Z) (o : Option (Typing X)) (rest : Typing X → Option (Typing Y)) → ((a : Typing X) → rest a ≡ None) → followed f o rest ≡ None
followed_none f o rest h = grind (arith, common_steps)

-- what is made of both can be made by the second
abbrev pub second : {X Y : Type 0} → X → Y → Y
second x y = y

module _ {X Y Z : Type 0} (f : X → Y → Z) where
  pub within : (o : Option (Typing X)) (rest : Typing X → Option (Typing Y)) → followed f o rest ≡ followed second o (λ a. made_into (f a.made) (rest a))
  within o rest = grind (arith, common_steps)

  -- the same of what was made
  pub both_made : {W : Type 0} (h : Z → W) (o : Option (Typing X)) (rest : Typing X → Option (Typing Y)) → made_into h (followed second o (λ a. made_into (f a.made) (rest a))) ≡ followed second o (λ a. made_into (λ y. h (f a.made y)) (rest a))
  both_made h o rest = grind (arith, common_steps)

  -- in another scope
  pub scoped_within : (g : Scope → Scope) (o : Option (Typing X)) (rest : Typing X → Option (Typing Y)) → scoped g (followed f o rest) ≡ followed second o (λ a. made_into (f a.made) (scoped g (rest a)))
  scoped_within g o rest = grind (arith, common_steps)

-- one step, and the next where something is made
pub later_made : {X Y : Type 0} (n d : ℕ) (t : Step X) (o : ℕ → Option (Typing X)) (next : X → Scope → ℕ → Step Y) (rest : ℕ → Typing X → Option (Typing Y)) → AgreesAtDepths n d o t
    → ((a : Typing X) → o d ≡ Some a → AgreesAtDepths (n + a.expansions) d (λ c. rest c a) (next a.made a.scope a.expansions))
    → AgreesAtDepths n d (λ c. followed second (o c) (rest c)) (then_made t next)
later_made n d t o next rest h r = in_order n d second last_made (λ x y. refl) t o (after_made next) rest h r

-- what agrees at all depths agrees at its own, behind no more expansions than may be made
fits_few : (n k : ℕ) → n ≤ most_expansions → FitsBehind n k → n + k ≤ most_expansions
fits_few n k few i = grind (arith, common_steps)

at_own_depth : {X : Type 0} (n : ℕ) (t : Step X) (v w : Option (Typing X)) → v ≡ w → Agrees n t w → Agrees n t v
at_own_depth n t v w same h = rw same h

pub agrees_at_own : {X : Type 0} (n d : ℕ) (t : Step X) (o : ℕ → Option (Typing X)) → n ≤ most_expansions → AgreesAtDepths n d o t → Agrees n t (o d)
agrees_at_own n d _ o few (only_read x s k fits only) = at_own_depth n _ _ _ only.here (is_read x s k (fits_few n k few fits))
agrees_at_own n d _ o few (never_read m s k w ws none) = at_own_depth n _ _ _ (none d) (is_wrong m s k w ws)
agrees_at_own n d _ o few (too_deep s none) = at_own_depth n _ _ _ none (is_stopped of_nesting s None (λ a h. absurd (cc)))
agrees_at_own n d _ o few (too_long s past) = is_stopped of_expansions s (o d) (past d)
agrees_at_own n d _ o few (never_read_later l s w ws none) = at_own_depth n _ _ _ (none d) (is_stopped_later l s w ws)
