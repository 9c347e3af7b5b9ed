-- The items that the words behind a task are, one after another.
use Rattle.std.specs.Prelude.{ℕ, ◌≡◌, ◌==◌, ◌&&◌, ◌++◌, Bool, true, false, List, [], ◌∷◌, Option, Some, None, codes, drop, nat_eq, if◌then◌else◌}
use Rattle.std.specs.List.{before_first, filter_map, list_any, starts_with}
use Rattle.std.specs.Option.{option_or}
use Rattle.std.specs.Str.{bytes_eq}
use Rattle.app_words.specs.declared.items.Item.{Item}
use Rattle.app_words.specs.declared.items.Item.TheVariants as I
use Rattle.app_words.specs.declared.options.TaskOption.{TaskOption}
use Rattle.app_words.specs.declared.tasks.Job.{Job}
use Rattle.app_words.specs.Options.{option_of, takes_next}
use Rattle.app_words.specs.Tasks.{has_call}

-- the words of an item: an option alone, joined to its value by `=`, or with its value in the next word; or a word that is no option
abbrev pub spelled : Item → List (List ℕ)
spelled (I.Alone word o) = word.now ∷ []
spelled (I.Joined word o value) = (word.now ++ (61 ∷ value.now)) ∷ []
spelled (I.Apart word o value) = word.now ∷ (value.now ∷ [])
spelled (I.Plain word) = word.now ∷ []

-- what stands before the first `=` of a word
abbrev pub name_in : List ℕ → List ℕ
name_in word = before_first (λ b. b == 61) word

-- whether a word begins the words of a call
abbrev pub begins_call : Job → List ℕ → Bool
begins_call job word = has_call job && bytes_eq word (codes "--")

-- the item is one of this task, where these words follow: an option that takes the next word is alone only as the last word, and a
-- word is no option only if there is none of its name
abbrev pub IsItem : Job → Item → (rest : List (List ℕ)) → Type 0
IsItem job (I.Alone word o) rest = (option_of job word.now ≡ Some o) × (takes_next o.takes ≡ true → rest ≡ [])
IsItem job (I.Joined word o value) rest = option_of job word.now ≡ Some o
IsItem job (I.Apart word o value) rest = (option_of job word.now ≡ Some o) × (takes_next o.takes ≡ true)
IsItem job (I.Plain word) rest = (option_of job (name_in word.now) ≡ None) × (begins_call job word.now ≡ false)

-- it is an option of this word, which may take the next one
abbrev pub IsOptionWith : List ℕ → TaskOption → List (List ℕ) → Item → (rest : List (List ℕ)) → Type 0
IsOptionWith name option others (I.Alone word o) rest =
    (word.now ≡ name) × (o ≡ option) × (others ≡ rest) × (takes_next o.takes ≡ true → rest ≡ [])
IsOptionWith name option others (I.Joined word o value) rest = ⊥
IsOptionWith name option others (I.Apart word o value) rest =
    (word.now ≡ name) × (o ≡ option) × (others ≡ value.now ∷ rest) × (takes_next o.takes ≡ true)
IsOptionWith name option others (I.Plain word) rest = ⊥

-- words begin with an item
abbrev pub BeginsWith : Job → List (List ℕ) → Item → (rest : List (List ℕ)) → Type 0
BeginsWith job words item rest = (words ≡ spelled item ++ rest) × IsItem job item rest

-- whether it is an option of this word
abbrev pub is_option : List ℕ → Item → Bool
is_option name (I.Alone word o) = bytes_eq word.now name
is_option name (I.Joined word o value) = bytes_eq word.now name
is_option name (I.Apart word o value) = bytes_eq word.now name
is_option name (I.Plain word) = false

-- and has no value
abbrev pub is_alone : List ℕ → Item → Bool
is_alone name (I.Alone word o) = bytes_eq word.now name
is_alone name _ = false

-- its value, if it is an option of this word
abbrev pub value_in : List ℕ → Item → Option (List ℕ)
value_in name (I.Joined word o value) = if bytes_eq word.now name then Some value.now else None
value_in name (I.Apart word o value) = if bytes_eq word.now name then Some value.now else None
value_in name _ = None

-- the value of an option, if it is given, and all its values in order
abbrev pub value_of : List ℕ → List Item → Option (List ℕ)
value_of name [] = None
value_of name (item ∷ items) = option_or (value_in name item) (value_of name items)

abbrev pub values_of : List ℕ → List Item → List (List ℕ)
values_of name items = filter_map (value_in name) items

-- whether it is `--`
abbrev pub is_separator : Item → Bool
is_separator (I.Plain word) = bytes_eq word.now (codes "--")
is_separator _ = false

-- the file that it names: `--stdin` is `-`
abbrev pub file_of : Item → Option (List ℕ)
file_of (I.Plain word) = if bytes_eq word.now (codes "--") then None else Some word.now
file_of (I.Alone word o) = if bytes_eq word.now (codes "--stdin") then Some (codes "-") else None
file_of _ = None

abbrev pub files_of : List Item → List (List ℕ)
files_of items = filter_map file_of items

-- the items of the last version: those behind `--`, or all
abbrev pub items_behind : (all : List Item) → List Item → List Item
items_behind all [] = all
items_behind all (item ∷ items) = if is_separator item then items else items_behind all items

abbrev pub newest : List Item → List Item
newest items = items_behind items items

-- a path without `./` before it
abbrev pub plain : List ℕ → List ℕ
plain path = if starts_with nat_eq path (codes "./") then drop 2 path else path

abbrev pub is_same_path : List ℕ → Option (List ℕ) → Bool
is_same_path path None = false
is_same_path path (Some other) = bytes_eq (plain other) (plain path)

-- whether the last version has a file
abbrev pub has_file : List ℕ → List Item → Bool
has_file path items = list_any (λ item. is_same_path path (file_of item)) (newest items)
