-- What words ask, and which ask nothing.
use Rattle.std.specs.Prelude.{ℕ, ◌≡◌, ⊤, ◌++◌, ◌⊎◌, Bool, true, false, List, [], ◌∷◌, Option, Some, None, String, codes, is_some, map, string_bytes, if◌then◌else◌}
use Rattle.std.specs.Borrow.{Bor}
use Rattle.std.specs.Option.{option_or}
use Rattle.std.specs.declared.alloc.Global.{Global}
use Rattle.std.specs.Str.{bytes_eq}
use Rattle.app_words.specs.declared.conditions.ConditionsRequest.{ConditionsRequest}
use Rattle.app_words.specs.declared.formatting.Formatting.{Formatting}
use Rattle.app_words.specs.declared.items.Item.{Item}
use Rattle.app_words.specs.declared.request.Request.{Request}
use Rattle.app_words.specs.declared.tasks.Job.{Job}
use Rattle.app_words.specs.declared.tasks.Job.TheVariants as J
use Rattle.app_words.specs.declared.tasks.Task.{Task}
use Rattle.app_words.specs.declared.unasked.Unasked.{Unasked}
use Rattle.app_words.specs.declared.unasked.Unasked.TheVariants as U
use Rattle.app_words.specs.declared.words.Command.{Command}
use Rattle.app_words.specs.declared.words.Command.TheVariants as C
use Rattle.app_words.specs.Items.{BeginsWith}
use Rattle.app_words.specs.Refusals as R
use Rattle.app_words.specs.Refusals.{Refusal, text_of}
use Rattle.app_words.specs.Requests.{IsConditionsOf, IsFormattingOf, IsRequestOf}
use Rattle.app_words.specs.Tasks.{has_call, has_rule, job_named}
use Rattle.app_words.specs.WrongItems.{missing, wrong_item}

-- items are read from words one after another, each right behind those before it, and the rest is left
pub data AreRead (job : Job) (words : List (List ℕ)) : List Item → List (List ℕ) → Type 0 where
  none_read : AreRead job words [] words
  next_read : (items : List Item) (item : Item) (left rest : List (List ℕ)) → AreRead job words items left
      → BeginsWith job left item rest → wrong_item job items item ≡ None → AreRead job words (items ++ (item ∷ [])) rest

-- what is left behind the items: `--` and the words of a call, or nothing
abbrev pub spelled_call : Option (List (List ℕ)) → List (List ℕ)
spelled_call None = []
spelled_call (Some words) = codes "--" ∷ words

-- the words behind a task are these items, all right, and these words of a call
pub record AreGiven (job : Job) (words : List (List ℕ)) (items : List Item) (call : Option (List (List ℕ))) : Type 0 where
  pub read : AreRead job words items (spelled_call call)
  pub called : is_some call ≡ true → has_call job ≡ true

-- the words of a call as they are passed
abbrev pub call_words : Option (Bor (List (String Global))) → Option (List (List ℕ))
call_words None = None
call_words (Some words) = Some (map string_bytes words.now)

-- the first wrong item has this reason
pub record IsFirstWrong (job : Job) (words : List (List ℕ)) (reason : Refusal) : Type 0 where
  pub items : List Item
  pub item : Item
  pub left : List (List ℕ)
  pub rest : List (List ℕ)
  pub read : AreRead job words items left
  pub begins : BeginsWith job left item rest
  pub wrong : wrong_item job items item ≡ Some reason

-- all items are right, but something isn't there
pub record IsMissing (task : Task) (words : List (List ℕ)) (reason : Refusal) : Type 0 where
  pub items : List Item
  pub call : Option (List (List ℕ))
  pub given : AreGiven (J.Task task) words items call
  pub wrong : missing task items call ≡ Some reason

-- the words of a call, if there is one
abbrev pub called_words : Option (List (List ℕ)) → List (List ℕ)
called_words None = []
called_words (Some words) = words

-- a task asks this, by the rule and the words behind it
pub record IsRequestBy (colors : Bool) (task : Task) (rule : List ℕ) (words : List (List ℕ)) (asked : Request) : Type 0 where
  pub items : List Item
  pub call : Option (List (List ℕ))
  pub given : AreGiven (J.Task task) words items call
  pub complete : missing task items call ≡ None
  pub made : IsRequestOf colors task rule items (called_words call) asked

-- or it asks nothing
abbrev pub IsRefusedBy : Task → List (List ℕ) → Refusal → Type 0
IsRefusedBy task words reason = IsFirstWrong (J.Task task) words reason ⊎ IsMissing task words reason

-- the words behind a task that is about a rule: the rule has a name
abbrev pub IsAskedOfRule : Bool → Task → List (List ℕ) → Request → Type 0
IsAskedOfRule colors task [] asked = ⊥
IsAskedOfRule colors task ([] ∷ words) asked = ⊥
IsAskedOfRule colors task ((b ∷ bs) ∷ words) asked = IsRequestBy colors task (b ∷ bs) words asked

abbrev pub IsRefusedOfRule : Task → List (List ℕ) → Refusal → Type 0
IsRefusedOfRule task [] reason = reason ≡ R.no_rule task
IsRefusedOfRule task ([] ∷ words) reason = reason ≡ R.no_rule task
IsRefusedOfRule task ((b ∷ bs) ∷ words) reason = IsRefusedBy task words reason

abbrev pub IsAskedOfTask : (has_rule : Bool) → Bool → Task → List (List ℕ) → Request → Type 0
IsAskedOfTask true colors task words asked = IsAskedOfRule colors task words asked
IsAskedOfTask false colors task words asked = IsRequestBy colors task [] words asked

abbrev pub IsRefusedOfTask : (has_rule : Bool) → Task → List (List ℕ) → Refusal → Type 0
IsRefusedOfTask true task words reason = IsRefusedOfRule task words reason
IsRefusedOfTask false task words reason = IsRefusedBy task words reason

-- what is asked of `fmt` and of `conditions`
pub record IsFormattingBy (words : List (List ℕ)) (asked : Formatting) : Type 0 where
  pub items : List Item
  pub given : AreGiven J.Formatting words items None
  pub made : IsFormattingOf items asked

pub record IsConditionsBy (words : List (List ℕ)) (asked : ConditionsRequest) : Type 0 where
  pub items : List Item
  pub given : AreGiven J.Conditions words items None
  pub made : IsConditionsOf items asked

-- what is asked of the program itself, by the first such word before `--`: help, which is true, or the version
abbrev pub own_word : List ℕ → Option Bool
own_word word =
    if bytes_eq word (codes "--help") then Some true else
    if bytes_eq word (codes "-h") then Some true else
    if bytes_eq word (codes "--version") then Some false else None

abbrev pub asked_of_program : List (List ℕ) → Option Bool
asked_of_program [] = None
asked_of_program (word ∷ words) = if bytes_eq word (codes "--") then None else option_or (own_word word) (asked_of_program words)

-- what the first word names
abbrev pub first_job : List (List ℕ) → Option Job
first_job [] = None
first_job (word ∷ words) = job_named word

-- what the first word names is asked this by the words behind it
abbrev pub IsAskedBehind : (colors : Bool) → Option Job → List (List ℕ) → Command → Type 0
IsAskedBehind colors (Some (J.Task task)) rest (C.Request asked) = IsAskedOfTask (has_rule task) colors task rest asked
IsAskedBehind colors (Some J.Formatting) rest (C.Formatting asked) = IsFormattingBy rest asked
IsAskedBehind colors (Some J.Conditions) rest (C.Conditions asked) = IsConditionsBy rest asked
IsAskedBehind colors (Some J.Server) rest C.Server = rest ≡ []
IsAskedBehind colors job rest command = ⊥

abbrev pub IsAskedFirst : (colors : Bool) → List (List ℕ) → Command → Type 0
IsAskedFirst colors [] command = ⊥
IsAskedFirst colors (word ∷ rest) command = IsAskedBehind colors (job_named word) rest command

-- words ask this: help, or which program this is, if a word says so; else what is asked of what the first one names
abbrev pub IsAsked : Option Bool → List (List ℕ) → (colors : Bool) → Command → Type 0
IsAsked (Some true) words colors (C.Help job) = job ≡ first_job words
IsAsked (Some true) words colors command = ⊥
IsAsked (Some false) words colors C.Version = ⊤
IsAsked (Some false) words colors command = ⊥
IsAsked None words colors command = IsAskedFirst colors words command

abbrev pub IsAskedBy : List (List ℕ) → (colors : Bool) → Command → Type 0
IsAskedBy words colors command = IsAsked (asked_of_program words) words colors command

-- why the words behind what the first one names ask nothing
abbrev pub unnamed : List ℕ → Refusal
unnamed [] = R.no_task
unnamed (b ∷ bs) = R.no_task_called (b ∷ bs)

abbrev pub IsRefusedBehind : Option Job → List ℕ → List (List ℕ) → Refusal → Type 0
IsRefusedBehind None word rest reason = reason ≡ unnamed word
IsRefusedBehind (Some (J.Task task)) word rest reason = IsRefusedOfTask (has_rule task) task rest reason
IsRefusedBehind (Some J.Formatting) word rest reason = IsFirstWrong J.Formatting rest reason
IsRefusedBehind (Some J.Conditions) word rest reason = IsFirstWrong J.Conditions rest reason
IsRefusedBehind (Some J.Server) word rest reason = IsFirstWrong J.Server rest reason

-- words ask nothing, for this reason
abbrev pub IsRefusedFirst : List (List ℕ) → Refusal → Type 0
IsRefusedFirst [] reason = reason ≡ R.no_task
IsRefusedFirst (word ∷ rest) reason = IsRefusedBehind (job_named word) word rest reason

abbrev pub IsRefusedFor : List (List ℕ) → Refusal → Type 0
IsRefusedFor words reason = (asked_of_program words ≡ None) × IsRefusedFirst words reason

-- something is told, for a reason of which this holds; or memory was refused
abbrev pub TellsWhy : (Refusal → Type 0) → Unasked → Type 0
TellsWhy Why U.Memory = ⊤
TellsWhy Why (U.Words text) = (reason : Refusal) × Why reason × (string_bytes text ≡ text_of reason)
