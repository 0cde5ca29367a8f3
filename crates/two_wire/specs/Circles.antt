-- How many numbers tell requests and messages apart. They count up, and the first follows the last.
use Rattle.std.specs.Prelude.{ℕ}

-- how many sequence numbers IPMB has
abbrev pub sequence_numbers : ℕ
sequence_numbers = 64

-- how many instances PLDM has, and MCTP control
abbrev pub instances : ℕ
instances = 32

-- how many tags tell the messages of one endpoint apart
abbrev pub tags : ℕ
tags = 8
