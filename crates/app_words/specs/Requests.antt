-- What items ask: what each field of a request has by them.
use Rattle.std.specs.Prelude.{ℕ, ◌≡◌, ◌==◌, ◌||◌, ◌++◌, Bool, true, false, List, [], ◌∷◌, Option, Some, None, codes, map, not, string_bytes, unwrap_or, if◌then◌else◌}
use Rattle.std.specs.List.{after_first, before_first, filter_map, flat_map, list_any}
use Rattle.std.specs.Option.{option_and_then, option_copied, option_to_list}
use Rattle.report_warnings.specs.declared.kinds.Warning.{Warning}
use Rattle.rust_items.specs.declared.options.CodegenOptions.{CodegenOptions}
use Rattle.rust_items.specs.declared.options.Prefix.{Prefix}
use Rattle.text_writer.specs.declared.lists.Indentation.{Indentation}
use Rattle.text_writer.specs.declared.lists.Indentation.TheVariants.{TwoColumns}
use Rattle.app_words.specs.declared.conditions.ConditionsRequest.{ConditionsRequest}
use Rattle.app_words.specs.declared.conditions.WrittenTexts.{WrittenTexts}
use Rattle.app_words.specs.declared.conditions.WrittenTexts.TheVariants as W
use Rattle.app_words.specs.declared.formatting.Formatting.{Formatting}
use Rattle.app_words.specs.declared.items.Item.{Item}
use Rattle.app_words.specs.declared.request.Request.{Request}
use Rattle.app_words.specs.declared.tasks.Task.{Task}
use Rattle.app_words.specs.declared.values.Format.{Format}
use Rattle.app_words.specs.declared.values.Format.TheVariants as F
use Rattle.app_words.specs.Items.{files_of, is_alone, is_option, value_of, values_of}
use Rattle.app_words.specs.Values.{colored_by, format_named, kind_named, names_in}
use Rattle.app_words.specs.WrongItems.{old_count}

-- whether an option is given, and whether it is without a value
abbrev pub is_given : List ℕ → List Item → Bool
is_given name items = list_any (is_option name) items

abbrev pub is_given_alone : List ℕ → List Item → Bool
is_given_alone name items = list_any (is_alone name) items

-- the value of an option, or the empty text
abbrev pub text_or_none : List ℕ → List Item → List ℕ
text_or_none name items = unwrap_or (value_of name items) []

abbrev pub format_asked : List Item → Format
format_asked items = unwrap_or (option_and_then format_named (value_of (codes "--format") items)) F.Text

-- the kinds of warnings of an option's values, in order
abbrev pub kinds_of : List (List ℕ) → List Warning
kinds_of values = flat_map (λ value. filter_map kind_named (names_in value)) values

-- what is shown in place of the beginning of a file's name
abbrev pub renaming : List ℕ → List ℕ × List ℕ
renaming value = (before_first (λ b. b == 61) value, after_first (λ b. b == 61) value)

abbrev pub prefix_view : Prefix → List ℕ × List ℕ
prefix_view p = (string_bytes p.prefix, string_bytes p.name)

-- how Rust code is written
pub record IsCodeOf (items : List Item) (code : CodegenOptions) : Type 0 where
  pub allows : code.exclude_global_allow_pragmas ≡ not (is_given (codes "--with-allows") items)
  pub log : code.emit_logging ≡ is_given (codes "--log") items
  pub prefixes : map prefix_view code.prefixes.items ≡ map renaming (values_of (codes "--prefix") items)

-- a request of a task, about a rule if there is one, by items and the words of a call
pub record IsRequestOf (colors : Bool) (named : Task) (about : List ℕ) (items : List Item) (behind : List (List ℕ)) (asked : Request) : Type 0 where
  pub task : asked.task ≡ named
  pub rule : asked.rule.now ≡ about
  pub expand : asked.expand ≡ not (is_given (codes "--no-expand") items)
  pub deny : asked.deny ≡ is_given_alone (codes "--deny") items
  pub denied : asked.denied.items ≡ kinds_of (values_of (codes "--deny") items)
  pub allowed : asked.allowed.items ≡ kinds_of (values_of (codes "--allow") items)
  pub all : asked.all ≡ is_given (codes "--all") items
  pub format : asked.format ≡ format_asked items
  pub colored : asked.colored ≡ colored_by colors (value_of (codes "--color") items)
  pub terms : option_copied asked.terms ≡ value_of (codes "--terms") items
  pub folder : asked.folder.now ≡ text_or_none (codes "-C") items
  pub code : IsCodeOf items asked.code
  pub stubs : asked.stubs ≡ is_given (codes "--stubs") items
  pub progress : asked.progress ≡ is_given (codes "--progress") items
  pub answers : option_copied asked.answers ≡ value_of (codes "--answers") items
  pub trace : asked.trace ≡ is_given (codes "--trace") items
  -- the file with answers is read behind all others
  pub files : map string_bytes asked.files.items ≡ files_of items ++ option_to_list (value_of (codes "--answers") items)
  pub old : asked.old ≡ old_count items
  pub call : map (λ word. word.now) asked.call.items ≡ behind

-- what is asked of `fmt`
abbrev pub indentation_of : Bool → Option Indentation
indentation_of true = Some TwoColumns
indentation_of false = None

pub record IsFormattingOf (items : List Item) (asked : Formatting) : Type 0 where
  pub check : asked.check ≡ (is_given (codes "--check") items || is_given (codes "--diff") items)
  pub diff : asked.diff ≡ is_given (codes "--diff") items
  pub indentation : asked.indentation ≡ indentation_of (is_given (codes "--indent") items)
  pub folder : asked.folder.now ≡ text_or_none (codes "-C") items
  pub files : map string_bytes asked.files.items ≡ files_of items

-- which texts for solvers are written: what is said last
abbrev pub texts_with : Item → Option WrittenTexts → Option WrittenTexts
texts_with item before =
    if is_option (codes "--open") item then Some W.Open else if is_option (codes "--asked") item then Some W.All else before

abbrev pub texts_behind : Option WrittenTexts → List Item → Option WrittenTexts
texts_behind before [] = before
texts_behind before (item ∷ items) = texts_behind (texts_with item before) items

-- what is asked of `conditions`
pub record IsConditionsOf (items : List Item) (asked : ConditionsRequest) : Type 0 where
  pub folder : asked.folder.now ≡ text_or_none (codes "-C") items
  pub above : asked.above ≡ is_given (codes "--above") items
  pub lax : asked.lax ≡ is_given (codes "--lax") items
  pub rule : option_copied asked.rule ≡ value_of (codes "--rule") items
  pub json : asked.json ≡ is_given (codes "--format") items
  pub texts : asked.texts ≡ texts_behind None items
  pub answers : option_copied asked.answers ≡ value_of (codes "--answers") items
  pub deny : asked.deny ≡ is_given (codes "--deny") items
  pub expected : option_copied asked.expected ≡ value_of (codes "--expect") items
  pub files : map string_bytes asked.files.items ≡ files_of items
