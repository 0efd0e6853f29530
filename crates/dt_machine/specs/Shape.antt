-- Where each value of the machine file is of its kind.
use Rattle.std.specs.Prelude.{Bool, ◌&&◌, codes}
use Rattle.serde_json.specs.Data.{Data}
use Rattle.dt_machine.specs.Given.{is_integer, is_text, is_list_of, has_field, may_have}

abbrev pub is_account : Data → Bool
is_account d = has_field (codes "name") is_text d && has_field (codes "uid") is_integer d
    && has_field (codes "privs") (is_list_of is_text) d

abbrev pub is_process : Data → Bool
is_process d = has_field (codes "pid") is_integer d && has_field (codes "uid") is_integer d && has_field (codes "execname") is_text d

abbrev pub is_numbers : Data → Bool
is_numbers = is_list_of is_integer

-- what may be left out has its kind too, where it is given
abbrev pub has_details : Data → Bool
has_details d = may_have (codes "tid") is_integer d && may_have (codes "mode") is_text d
    && may_have (codes "timestamp") is_integer d

abbrev pub has_numbers : Data → Bool
has_numbers d = may_have (codes "args") is_numbers d && may_have (codes "kstack") is_numbers d
    && may_have (codes "ustack") is_numbers d

abbrev pub is_firing : Data → Bool
is_firing d = has_field (codes "probe") is_integer d && has_field (codes "pid") is_integer d && has_details d && has_numbers d

-- The five keys are there, and every value is of the right kind. What has a key is an object.
abbrev pub is_machine : Data → Bool
is_machine d = has_field (codes "cpus") is_integer d && has_field (codes "accounts") (is_list_of is_account) d
    && has_field (codes "processes") (is_list_of is_process) d && has_field (codes "probes") (is_list_of is_text) d
    && has_field (codes "scripts") (is_list_of (is_list_of is_firing)) d
