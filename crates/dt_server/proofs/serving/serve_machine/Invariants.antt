use Rattle.dt_server.proofs.serving.serve_machine.Given as goal

-- the hub that is made of these parts
abbrev pub ghosts-serve_hub-J-Site : goal.ghosts-serve_hub-J-Site
ghosts-serve_hub-J-Site g a = record { book = a.parts.book }

abbrev pub ghosts-serve_hub-J-Traced : goal.ghosts-serve_hub-J-Traced
ghosts-serve_hub-J-Traced g a = record { contents = a.parts.contents }

abbrev pub ghosts-serve_hub-J-HubSite : goal.ghosts-serve_hub-J-HubSite
ghosts-serve_hub-J-HubSite g a = record { word = a.parts.word }
