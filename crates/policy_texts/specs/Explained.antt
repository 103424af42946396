-- What applies to a queue's name and a source, line by line: the settings of the queue, and the path of its mail.
use Rattle.std.specs.Prelude.{ℕ, List, ◌++◌, Option, Some, None, codes, decimal}
use Rattle.queue_name.specs.QueueName.{Name, spelling}
use Rattle.policy_core.specs.Policy.{Policy}
use Rattle.policy_core.specs.Layers.{settings_of}
use Rattle.policy_core.specs.Site.{site_of}
use Rattle.policy_core.specs.PathTables.{base_of}
use Rattle.policy_core.specs.declared.settings.Settings.{Settings}
use Rattle.policy_core.specs.declared.site.Site.{Site}
use Rattle.shaping_merge.specs.ExplainText.{line, explained}

abbrev pub number_text : Option ℕ → List ℕ
number_text None = codes "none"
number_text (Some n) = decimal n

-- the settings of a queue, in milliseconds
abbrev pub settings_lines : Name → Settings → List ℕ
settings_lines name settings =
    line (codes "queue") (spelling name)
    ++ (line (codes "pool") settings.pool
    ++ (line (codes "max_age") (decimal settings.max_age)
    ++ (line (codes "retry_interval") (decimal settings.retry_interval)
    ++ line (codes "max_retry_interval") (number_text settings.max_retry_interval))))

abbrev pub path_lines : Policy → Site → List ℕ → List ℕ
path_lines policy site source = explained (base_of policy site source) site source

unfoldable pub explanation : Policy → Name → List ℕ → List ℕ
explanation policy name source =
    settings_lines name (settings_of policy.queues name) ++ path_lines policy (site_of policy name.domain) source
