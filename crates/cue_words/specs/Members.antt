-- The members that fields of a request hold.
use Rattle.serde_json.specs.Data.{Members}
use Rattle.serde_json.specs.View.{members_view}
use Rattle.cue_words.specs.declared.fields.Fields.{Fields}

abbrev pub members : Fields → Members
members fields = members_view fields.map.entries
