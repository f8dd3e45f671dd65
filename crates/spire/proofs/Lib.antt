mod MadeHeights
