-- How items are read on.
use Rattle.std.proofs.Common.{◌≡◌, ◌+◌, ◌≤◌, ◌++◌, ◌&&◌, ℕ, List, [], ◌∷◌, Option, Some, None, Bool, true, false, Result, Ok, Err, MatchResult, codes, length, refl, arith, rules, subst, sym, inr}
use Rattle.std.proofs.lemmas.Bool.{false≢true}
use Rattle.std.proofs.lemmas.Slice.Eq.{bytes_eq-Decides}
use Rattle.std.specs.Str.{bytes_eq}
use Rattle.app_words.specs.declared.items.Item.{Item}
use Rattle.app_words.specs.declared.items.Item.TheVariants as I
use Rattle.app_words.specs.declared.request.Request.{Request}
use Rattle.app_words.specs.declared.tasks.Job.{Job}
use Rattle.app_words.specs.declared.tasks.Job.TheVariants as J
use Rattle.app_words.specs.declared.tasks.Task.{Task}
use Rattle.app_words.specs.declared.unasked.Unasked.{Unasked}
use Rattle.app_words.specs.declared.unasked.Unasked.TheVariants as U
use Rattle.app_words.specs.declared.words.Command.{Command}
use Rattle.app_words.specs.Asked.{AreGiven, AreRead, IsAskedBehind, IsAskedFirst, IsAskedOfRule, IsFirstWrong, IsRefusedBehind, IsRefusedBy, IsRefusedFirst, IsRefusedOfRule, IsRequestBy, TellsWhy, next_read}
use Rattle.app_words.specs.Items.{BeginsWith, begins_call}
use Rattle.app_words.specs.Refusals.{Refusal, Tells, TellsOf, no_rule, text_of}
use Rattle.app_words.specs.Tasks.{has_call, job_named}
use Rattle.app_words.specs.WrongItems.{missing, wrong_item}

both_true : (a b : Bool) → (a && b) ≡ true → (a ≡ true) × (b ≡ true)
both_true true b e = (refl, e)
both_true false b e = absurd (false≢true e)

same_bytes : (xs ys : List ℕ) → bytes_eq xs ys ≡ true → xs ≡ ys
same_bytes xs ys e = search (rules, bytes_eq-Decides)

-- an item that is right is read
pub read_on : (job : Job) (words : List (List ℕ)) (items before : List Item) (item : Item) (left : List (List ℕ)) (word : List ℕ) (others rest : List (List ℕ))
    → AreRead job words items left → left ≡ word ∷ others → BeginsWith job (word ∷ others) item rest → before ≡ items
    → wrong_item job before item ≡ None → AreRead job words (items ++ (item ∷ [])) rest
read_on job words items before item left word others rest read e begins same right =
    next_read items item left rest read (rw e begins) (rw (← same) right)

-- an item that is wrong is the first one that is
told_of : (job : Job) (words : List (List ℕ)) (items : List Item) (item : Item) (left rest : List (List ℕ)) (why : Unasked) (reason : Option Refusal)
    → AreRead job words items left → BeginsWith job left item rest → wrong_item job items item ≡ reason
    → TellsOf reason why → TellsWhy (IsFirstWrong job words) why
told_of job words items item left rest U.Memory reason read begins e tells = tt
told_of job words items item left rest (U.Words text) None read begins e tells = absurd tells
told_of job words items item left rest (U.Words text) (Some reason) read begins e tells =
    (reason, record { items = items; item = item; left = left; rest = rest; read = read; begins = begins; wrong = e }, tells)

pub told : (job : Job) (words : List (List ℕ)) (items before : List Item) (item : Item) (left : List (List ℕ)) (word : List ℕ) (others rest : List (List ℕ)) (why : Unasked)
    → AreRead job words items left → left ≡ word ∷ others → BeginsWith job (word ∷ others) item rest → before ≡ items
    → TellsOf (wrong_item job before item) why → TellsWhy (IsFirstWrong job words) why
told job words items before item left word others rest why read e begins same tells =
    told_of job words items item left rest why (wrong_item job before item) read (rw e begins) (rw same refl) tells

-- `--` before a call ends the items
pub call_given : (job : Job) (words : List (List ℕ)) (items : List Item) (left : List (List ℕ)) (word : List ℕ) (others : List (List ℕ))
    → AreRead job words items left → left ≡ word ∷ others → begins_call job word ≡ true → AreGiven job words items (Some others)
call_given job words items left word others read e begins =
    let two : (has_call job ≡ true) × (bytes_eq word (codes "--") ≡ true) = both_true (has_call job) (bytes_eq word (codes "--")) begins in
    let same : word ≡ codes "--" = same_bytes word (codes "--") two.1 in
    record { read = rw (← same, ← e) read; called = λ _. two.0 }

-- what begins with an item is longer than what is left
pub shorter : (job : Job) (words rest : List (List ℕ)) (item : Item) → BeginsWith job words item rest → length rest + 1 ≤ length words
shorter job words rest (I.Alone word o) b = rw b.0 (omega arith)
shorter job words rest (I.Joined word o value) b = rw b.0 (omega arith)
shorter job words rest (I.Apart word o value) b = rw b.0 (omega arith)
shorter job words rest (I.Plain word) b = rw b.0 (omega arith)

-- what is told has this reason
pub why_told : (Why : Refusal → Type 0) (reason : Refusal) (u : Unasked) → Why reason → Tells (text_of reason) u → TellsWhy Why u
why_told Why reason U.Memory why tells = tt
why_told Why reason (U.Words text) why tells = (reason, why, tells)

-- something isn't there when all words are read
missing_of : (task : Task) (words : List (List ℕ)) (items : List Item) (call : Option (List (List ℕ))) (u : Unasked) (reason : Option Refusal)
    → AreGiven (J.Task task) words items call → missing task items call ≡ reason → TellsOf reason u → TellsWhy (IsRefusedBy task words) u
missing_of task words items call U.Memory reason given e tells = tt
missing_of task words items call (U.Words text) None given e tells = absurd tells
missing_of task words items call (U.Words text) (Some reason) given e tells =
    (reason, inr (record { items = items; call = call; given = given; wrong = e }), tells)

pub told_missing : (task : Task) (words : List (List ℕ)) (items : List Item) (call : Option (List (List ℕ))) (u : Unasked)
    → AreGiven (J.Task task) words items call → TellsOf (missing task items call) u → TellsWhy (IsRefusedBy task words) u
told_missing task words items call u given tells = missing_of task words items call u (missing task items call) given refl tells

-- a rule without a name is refused, and with one the words behind it ask what they ask
pub told_no_rule : (task : Task) (rule : List ℕ) (words : List (List ℕ)) (u : Unasked)
    → bytes_eq rule (codes "") ≡ true → Tells (text_of (no_rule task)) u → TellsWhy (IsRefusedOfRule task (rule ∷ words)) u
told_no_rule task [] words u e tells = why_told (IsRefusedOfRule task ([] ∷ words)) (no_rule task) u refl tells
told_no_rule task (b ∷ bs) words u e tells = absurd (false≢true e)

pub ruled : (colors : Bool) (task : Task) (rule : List ℕ) (words : List (List ℕ)) (result : Result Request Unasked)
    → bytes_eq rule (codes "") ≡ false → MatchResult result (IsRequestBy colors task rule words) (TellsWhy (IsRefusedBy task words))
    → MatchResult result (IsAskedOfRule colors task (rule ∷ words)) (TellsWhy (IsRefusedOfRule task (rule ∷ words)))
ruled colors task [] words result e made = absurd (false≢true (sym e))
ruled colors task (b ∷ bs) words (Ok asked) e made = made
ruled colors task (b ∷ bs) words (Err why) e made = made

-- what the first word names is asked
pub asked_first : (colors : Bool) (word : List ℕ) (rest : List (List ℕ)) (job : Option Job) (result : Result Command Unasked)
    → job ≡ job_named word → MatchResult result (IsAskedBehind colors job rest) (TellsWhy (IsRefusedBehind job word rest))
    → MatchResult result (IsAskedFirst colors (word ∷ rest)) (TellsWhy (IsRefusedFirst (word ∷ rest)))
asked_first colors word rest job result e made =
    subst (λ (j : Option Job). MatchResult result (IsAskedBehind colors j rest) (TellsWhy (IsRefusedBehind j word rest))) e made
