-- The record on which each session is begun.
use Rattle.std.specs.Prelude.{pos, replicate}
use Rattle.session.specs.declared.Session.{Session}

abbrev pub zeroed : Session
zeroed =
    record {
      length = 0;
      last = replicate 64 (pos 0);
      trial = replicate 64 (pos 0);
      file = replicate 1040 0;
      started = 0;
      held = 0;
      spare = replicate 6 0;
    }
