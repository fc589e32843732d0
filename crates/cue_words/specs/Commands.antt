-- What the words of the tool ask: a line, the help text, or the first fault.
use Rattle.std.specs.Prelude.{ℕ, List, [], ◌∷◌, ◌++◌, codes, bytes_eq, Bool, true, false, Option, None, Some, Result, Ok, Err, if◌then◌else◌}
use Rattle.serde_json.specs.Data.{string, object, Members, no_members, member, put}
use Rattle.serde_json.specs.Written.{compact_text, has_float}
use Rattle.cue_json.specs.Fields.{◌>>=◌}
use Rattle.cue_json.specs.Lines.{object_in}
use Rattle.farm_types.specs.declared.depend.DependKind.{DependKind}
use Rattle.farm_types.specs.Formed.{names_layer, names_frame, names_target_layer, names_target_frame}
use Rattle.state_names.specs.Words.{kind_of, kind_word}
use Rattle.farm_lines.specs.Words.{whole}
use Rattle.cue_words.specs.declared.asked.ToolWords.{ToolWords}
use Rattle.cue_words.specs.declared.asked.ToolWords.TheVariants.{Ask, Help}
use Rattle.cue_words.specs.Parts.{Part, Named, Numbered, OfCores, AllOrAny, On, WordsError, Usage, BadSpec, filled}

-- a command's fixed members, and its parts in the order of the words
pub record Command : Type 0 where
  pub fixed : Members
  pub parts : List Part

-- the request of that name
abbrev pub asking : List ℕ → Members
asking op = member (codes "op") (string op) no_members

abbrev pub command : List ℕ → List Part → Command
command op parts = record { fixed = asking op; parts = parts }

-- ---- commands

abbrev pub lock_command : List ℕ → Command
lock_command lock = record { fixed = put (codes "lock") (string lock) (asking (codes "host")); parts = Named (codes "host") ∷ [] }

abbrev pub frame_parts : List Part
frame_parts = Named (codes "job") ∷ Named (codes "layer") ∷ Numbered (codes "frame") ∷ []

-- a list, from its beginning; of a job where a second word comes
abbrev pub list_parts : List (List ℕ) → List Part
list_parts (what ∷ job ∷ more) = Named (codes "what") ∷ Named (codes "job") ∷ []
list_parts few = Named (codes "what") ∷ []

abbrev pub list_command : List (List ℕ) → Command
list_command words = record { fixed = put (codes "from") (whole 0) (asking (codes "list")); parts = list_parts words }

-- a job, or one of its frames where more words come
abbrev pub kill_parts : List (List ℕ) → List Part
kill_parts (job ∷ layer ∷ more) = frame_parts
kill_parts few = Named (codes "job") ∷ []

-- the command of that name, with these words after it, but for `submit`, `depend` and `help`
abbrev pub command_of : List ℕ → List (List ℕ) → Option Command
command_of name words =
    if bytes_eq name (codes "list") then Some (list_command words)
    else (if bytes_eq name (codes "show") then Some (command (codes "show") (Named (codes "name") ∷ []))
    else (if bytes_eq name (codes "alloc") then Some (command (codes "alloc") (Named (codes "name") ∷ []))
    else (if bytes_eq name (codes "sub") then Some (command (codes "sub") (Named (codes "show") ∷ Named (codes "alloc") ∷ OfCores (codes "size") ∷ OfCores (codes "burst") ∷ []))
    else (if bytes_eq name (codes "limit") then Some (command (codes "limit") (Named (codes "name") ∷ Numbered (codes "most") ∷ []))
    else (if bytes_eq name (codes "lock") then Some (lock_command (codes "LOCKED"))
    else (if bytes_eq name (codes "unlock") then Some (lock_command (codes "OPEN"))
    else (if bytes_eq name (codes "nimby") then Some (lock_command (codes "NIMBY_LOCKED"))
    else (if bytes_eq name (codes "drop") then Some (command (codes "drop") (Numbered (codes "depend") ∷ []))
    else (if bytes_eq name (codes "pause") then Some (command (codes "pause") (Named (codes "job") ∷ []))
    else (if bytes_eq name (codes "resume") then Some (command (codes "resume") (Named (codes "job") ∷ []))
    else (if bytes_eq name (codes "kill") then Some (command (codes "kill") (kill_parts words))
    else (if bytes_eq name (codes "eat") then Some (command (codes "eat") frame_parts)
    else (if bytes_eq name (codes "retry") then Some (command (codes "retry") frame_parts)
    else (if bytes_eq name (codes "tick") then Some (command (codes "tick") [])
    else None))))))))))))))

-- ---- lines

-- the line of the members
abbrev pub line_of : Members → Result ToolWords WordsError
line_of ms = Ok (Ask (compact_text (object ms)))

abbrev pub asked : Option Command → List (List ℕ) → Result ToolWords WordsError
asked None words = Err (Usage 0)
asked (Some c) words = filled 1 c.parts words c.fixed >>= line_of

-- the help text is asked for by one word
abbrev pub helped : List (List ℕ) → Result ToolWords WordsError
helped [] = Ok Help
helped (word ∷ words) = Err (Usage 1)

-- ---- depends

abbrev pub part_if : Bool → Part → List Part
part_if true part = part ∷ []
part_if false part = []

-- the words after the kind: `all` or `any`, the end that waits, `on`, and the end that is waited for
abbrev pub depend_parts : DependKind → List Part
depend_parts kind =
    AllOrAny ∷ Named (codes "job") ∷ part_if (names_layer kind) (Named (codes "layer")) ++ part_if (names_frame kind) (Numbered (codes "frame")) ++ On
    ∷ Named (codes "on_job") ∷ part_if (names_target_layer kind) (Named (codes "on_layer")) ++ part_if (names_target_frame kind) (Numbered (codes "on_frame"))

abbrev pub depend_of : Option DependKind → List (List ℕ) → Result ToolWords WordsError
depend_of None words = Err (Usage 1)
depend_of (Some kind) words = filled 2 (depend_parts kind) words (put (codes "kind") (string (kind_word kind)) (asking (codes "depend"))) >>= line_of

abbrev pub depended : List (List ℕ) → Result ToolWords WordsError
depended [] = Err (Usage 1)
depended (kind ∷ words) = depend_of (kind_of kind) words

-- ---- submits

-- the spec's object as the job, where each of its numbers is a whole number of 64 bits
abbrev pub submit_of : Option Members → Result ToolWords WordsError
submit_of None = Err BadSpec
submit_of (Some spec) = if has_float (object spec) then Err BadSpec else line_of (member (codes "job") (object spec) (asking (codes "submit")))

abbrev pub spec_in : Option (List ℕ) → Option Members
spec_in None = None
spec_in (Some text) = object_in text

-- the word is the name of the spec's file
abbrev pub submitted : Option (List ℕ) → List (List ℕ) → Result ToolWords WordsError
submitted spec [] = Err (Usage 1)
submitted spec (file ∷ []) = submit_of (spec_in spec)
submitted spec (file ∷ word ∷ words) = Err (Usage 2)

-- ---- all words

abbrev pub by_name : List ℕ → List (List ℕ) → Option (List ℕ) → Result ToolWords WordsError
by_name name words spec =
    if bytes_eq name (codes "submit") then submitted spec words
    else (if bytes_eq name (codes "depend") then depended words
    else (if bytes_eq name (codes "help") then helped words
    else asked (command_of name words) words))

-- what the words ask, with the text of the spec's file where there is one
unfoldable pub words_of : List (List ℕ) → Option (List ℕ) → Result ToolWords WordsError
words_of [] spec = Err (Usage 0)
words_of (name ∷ words) spec = by_name name words spec
