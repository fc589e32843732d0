-- The lines that take no memory.
use Rattle.std.proofs.Common.{◌≡◌, [], ◌∷◌, ◌++◌, refl, codes}
use Rattle.std.specs.Fmt.{digits}
use Rattle.serde_json.proofs.OnLiterals.{serde_json_on_literals}
use Rattle.farm_lines.specs.declared.reply.Reply.TheVariants as reply
use Rattle.farm_lines.specs.Reply.{reply_text, too_long, store_fault, no_memory}

pub too_long_text : codes "{\"code\":2,\"ok\":false,\"why\":\"too_long\"}\n" ≡ reply_text reply.TooLong ++ 10 ∷ []
unfolding serde_json_on_literals too_long digits
too_long_text = refl

pub store_text : codes "{\"code\":15,\"ok\":false,\"why\":\"store\"}\n" ≡ reply_text reply.Store ++ 10 ∷ []
unfolding serde_json_on_literals store_fault digits
store_text = refl

pub no_memory_text : codes "{\"code\":16,\"ok\":false,\"why\":\"memory\"}\n" ≡ reply_text reply.NoMemory ++ 10 ∷ []
unfolding serde_json_on_literals no_memory digits
no_memory_text = refl
