-- What stands in `v` are the bytes of the words behind.
use Rattle.std.proofs.Common.{◌≡◌, take}
use Rattle.words.specs.Words.{bytes}
use Rattle.program_io.proofs.bytes_of.Given as goal

abbrev pub invariant-loop-w : goal.invariant-loop-w
invariant-loop-w l = l.v.items ≡ bytes (take l.w-index l.list)
