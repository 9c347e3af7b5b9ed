-- The server takes no words.
use Rattle.std.proofs.Common.{◌≡◌, ◌∙◌, ◌&&◌, ◌||◌, ◌==◌, ℕ, List, [], ◌∷◌, Option, Some, None, Bool, true, false, codes, is_some, length, refl, sym, ap}
use Rattle.std.specs.Prelude.{if◌then◌else◌}
use Rattle.std.specs.List.{list_any}
use Rattle.std.specs.Str.{bytes_eq}
use Rattle.std.proofs.lemmas.Bool.{false≢true, true≢false}
use Rattle.app_words.specs.declared.items.Item.{Item}
use Rattle.app_words.specs.declared.items.Item.TheVariants as I
use Rattle.app_words.specs.declared.options.TaskOption.{TaskOption}
use Rattle.app_words.specs.declared.tasks.Job.TheVariants as J
use Rattle.app_words.specs.Asked.{AreGiven, AreRead, next_read, none_read}
use Rattle.app_words.specs.Items.{IsItem}
use Rattle.app_words.specs.Options.{is_of, option_among, option_of, table}
use Rattle.app_words.specs.Refusals as R
use Rattle.app_words.specs.Refusals.{Refusal}
use Rattle.app_words.specs.WrongItems.{foreign, is_dashed, wrong_item}

some_is_not_none : {X : Type 0} (o : Option X) (x : X) → o ≡ Some x → o ≡ None → ⊥
some_is_not_none o x some none = true≢false (ap is_some (sym some ∙ none))

-- no option of the table is the server's
passed_over : (is_named is_own : Bool) (o : TaskOption) (others : Option TaskOption)
    → is_own ≡ false → others ≡ None → (if is_named && is_own then Some o else others) ≡ None
passed_over false is_own o others foreign none = none
passed_over true false o others foreign none = none
passed_over true true o others foreign none = absurd (true≢false foreign)

left_of_or : (a b : Bool) → (a || b) ≡ false → a ≡ false
left_of_or false b e = refl
left_of_or true b e = e

right_of_or : (a b : Bool) → (a || b) ≡ false → b ≡ false
right_of_or false b e = e
right_of_or true b e = absurd (true≢false e)

none_among : (word : List ℕ) (rows : List (List ℕ × TaskOption))
    → list_any (λ row. is_of J.Server row.1.owners) rows ≡ false → option_among J.Server word rows ≡ None
none_among word [] foreign = refl
none_among word (row ∷ rows) foreign =
    passed_over (bytes_eq row.0 word) (is_of J.Server row.1.owners) row.1 (option_among J.Server word rows)
    (left_of_or (is_of J.Server row.1.owners) (list_any (λ row. is_of J.Server row.1.owners) rows) foreign)
    (none_among word rows (right_of_or (is_of J.Server row.1.owners) (list_any (λ row. is_of J.Server row.1.owners) rows) foreign))

no_option : (word : List ℕ) → option_of J.Server word ≡ None
unfolding option_of table
no_option word = none_among word table refl

-- so each item is wrong
always_some : (a b c : Bool) (x y z u : Refusal) → (if a then Some x else if b then Some y else if c then Some z else Some u) ≡ None → ⊥
always_some true b c x y z u none = some_is_not_none (Some x) x refl none
always_some false true c x y z u none = some_is_not_none (Some y) y refl none
always_some false false true x y z u none = some_is_not_none (Some z) z refl none
always_some false false false x y z u none = some_is_not_none (Some u) u refl none

right_item : (items : List Item) (item : Item) (rest : List (List ℕ)) → IsItem J.Server item rest → wrong_item J.Server items item ≡ None → ⊥
right_item items (I.Alone word o) rest is right = some_is_not_none (option_of J.Server word.now) o is.0 (no_option word.now)
right_item items (I.Joined word o value) rest is right = some_is_not_none (option_of J.Server word.now) o is (no_option word.now)
right_item items (I.Apart word o value) rest is right = some_is_not_none (option_of J.Server word.now) o is.0 (no_option word.now)
right_item items (I.Plain word) rest is right =
    always_some (bytes_eq word.now (codes "--")) (length word.now == 0) (is_dashed word.now) (R.has_no_option J.Server (codes "--")) R.no_name
    (foreign J.Server word.now) R.takes_no_file right

all_left : (words : List (List ℕ)) (items : List Item) (left : List (List ℕ)) → AreRead J.Server words items left → left ≡ words
all_left words _ _ none_read = refl
all_left words _ _ (next_read items item left rest read begins right) = absurd (right_item items item rest begins.1 right)

pub no_words : (words : List (List ℕ)) (items : List Item) (call : Option (List (List ℕ))) → AreGiven J.Server words items call → words ≡ []
no_words words items None given = sym (all_left words items [] given.read)
no_words words items (Some call) given = absurd (false≢true (given.called refl))
