-- How far a run is, in percent, and from when on that is shown.
use Rattle.std.specs.Prelude.{◌&&◌, ℕ, ◌+◌, ◌-◌, ◌/◌, ltb}
use Rattle.io_progress.specs.declared.Progress.{Progress}

-- of two readings of a file of so many bytes, with a block in each 512, so many blocks are done: a hundredth is one block in each 25,600 bytes
abbrev pub percent_of : ℕ → ℕ → ℕ
percent_of size done = done / (size / 25600 + 1)

-- in another second: shown from the second one on
abbrev pub in_second : Progress → ℕ → Progress
in_second progress now =
    record {
      is_terminal = progress.is_terminal;
      is_shared = progress.is_shared;
      size = progress.size;
      began = progress.began;
      second = now;
      is_shown = ltb progress.began now && ltb 1 (now - progress.began);
    }
