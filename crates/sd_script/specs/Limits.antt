-- How much a script may hold.
use Rattle.std.specs.Prelude.{ℕ}

-- the most bytes of an input, and the most for which a byte run text that is read stands
abbrev pub input_limit : ℕ
input_limit = 67108864

-- the most bytes of all boot files and all files of the root export together
abbrev pub all_files_limit : ℕ
all_files_limit = 67108864

-- the most further machines
abbrev pub host_limit : ℕ
host_limit = 16

-- the most lines of the bootparams file
abbrev pub params_limit : ℕ
params_limit = 256

-- the most fates of a script
abbrev pub fate_limit : ℕ
fate_limit = 65536

-- the most packets of strangers
abbrev pub stranger_limit : ℕ
stranger_limit = 4096
