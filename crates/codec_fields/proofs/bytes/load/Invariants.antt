use Rattle.std.proofs.Common.{◌*◌, ◌^◌, ◌<◌, ◌≡◌, take}
use Rattle.codec_fields.specs.Fields.{be}
use Rattle.codec_fields.proofs.bytes.load.Given as goal

abbrev pub invariant-loop-byte : goal.invariant-loop-byte
invariant-loop-byte l = (l.word ≡ be (take l.byte-index l.byte-items)) × (l.word < 2 ^ (8 * l.byte-index))
